-- Values that stand from a version on.
use Rattle.std.proofs.Common.{◌≡◌, ℕ, ◌+◌, ◌<◌, ◌≤◌, if◌then◌else◌, List, [], ◌∷◌, ◌++◌, Option, None, Some, Bool, true}
use Rattle.std.proofs.Common.{false, leb, length, take, get_or, refl, sym, ap, ◌∙◌, arith}
use Rattle.std.proofs.lemmas.List.{take_more}
use Rattle.std.proofs.lemmas.Bool.Decides.{nat_tests}
use Rattle.std.specs.Option.{option_or}
use Rattle.version_core.specs.Since.{standing, trimmed}
use Rattle.version_core.specs.declared.since.Since.{Since}

or_none : {A : Type 0} (x : Option A) → option_or x None ≡ x
or_none None = refl
or_none (Some x) = refl

or_assoc : {A : Type 0} (x y z : Option A) → option_or (option_or x y) z ≡ option_or x (option_or y z)
or_assoc None y z = refl
or_assoc (Some x) y z = refl

module _ {A : Type 0} (version : ℕ) where
  pub at_entry : Since A → Option A
  at_entry entry = if leb entry.version version then Some entry.value else None

  pub standing-append : (entries later : List (Since A)) → standing version (entries ++ later) ≡ option_or (standing version later) (standing version entries)
  standing-append [] later = sym (or_none (standing version later))
  standing-append (entry ∷ entries) later =
      ap (λ o. option_or o (if leb entry.version version then Some entry.value else None)) (standing-append entries later)
      ∙ or_assoc (standing version later) (standing version entries) (if leb entry.version version then Some entry.value else None)

  -- the last of so many entries is looked at first
  pub standing-last : (entries : List (Since A)) (n : ℕ) (entry : Since A) → n < length entries → entry ≡ get_or entries n entry → standing version (take (n + 1) entries) ≡ option_or (if leb entry.version version then Some entry.value else None) (standing version (take n entries))
  standing-last entries n entry lt here =
      ap (standing version) (take_more entries n entry lt ∙ ap (λ x. take n entries ++ x ∷ []) (sym here))
      ∙ standing-append (take n entries) (entry ∷ [])

  -- an entry of a later version isn't seen
  pub standing-push : (entries : List (Since A)) (entry : Since A) → leb entry.version version ≡ false → standing version (entries ++ entry ∷ []) ≡ standing version entries
  standing-push entries entry later = standing-append entries (entry ∷ []) ∙ ap (λ b. option_or (if b then Some entry.value else None) (standing version entries)) later

  -- one of that version is
  pub standing-pushed : (entries : List (Since A)) (entry : Since A) → leb entry.version version ≡ true → standing version (entries ++ entry ∷ []) ≡ Some entry.value
  standing-pushed entries entry now = standing-append entries (entry ∷ []) ∙ ap (λ b. option_or (if b then Some entry.value else None) (standing version entries)) now

  -- what is trimmed isn't seen
  pub standing-trimmed : (oldest : ℕ) (entries : List (Since A)) → oldest ≤ version → standing version (trimmed oldest entries) ≡ standing version entries
  standing-trimmed oldest [] le = refl
  standing-trimmed oldest (first ∷ []) le = refl
  standing-trimmed oldest (first ∷ second ∷ entries) le =
      elim (leb second.version oldest) as (λ b. leb second.version oldest ≡ b → standing version (if b then trimmed oldest (second ∷ entries) else first ∷ second ∷ entries) ≡ standing version (first ∷ second ∷ entries)) [
        | true ↦ λ early. standing-trimmed oldest (second ∷ entries) le ∙ hidden (standing version entries) (leb second.version version) (let e = early in grind (arith, nat_tests, le))
        | false ↦ λ _. refl
      ] refl
    where
      hidden : (later : Option A) (b : Bool) → b ≡ true → option_or later (if b then Some second.value else None) ≡ option_or (option_or later (if b then Some second.value else None)) (if leb first.version version then Some first.value else None)
      hidden (Some x) b is = refl
      hidden None true is = refl
      hidden None false is = cc

-- where an entry is no younger than one of two versions exactly where it is no younger than the other, the same stands
-- at both
pub standing-same : {A : Type 0} (v w : ℕ) (entries : List (Since A)) → ((entry : Since A) → leb entry.version v ≡ leb entry.version w) → standing v entries ≡ standing w entries
standing-same v w [] same = refl
standing-same v w (entry ∷ entries) same = λ i. option_or (standing-same v w entries same i) (if same entry i then Some entry.value else None)
