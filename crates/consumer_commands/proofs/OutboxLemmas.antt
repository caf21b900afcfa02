-- The entries up to a number, one after another.
use Rattle.std.proofs.Common.{◌≡◌, ◌<◌, ◌≤◌, ℕ, true, false, List, [], ◌∷◌, ◌++◌, Some, None, refl, sym, ◌∙◌, ap, subst}
use Rattle.std.proofs.Common.{arith, append-nil}
use Rattle.std.proofs.lemmas.Bool.{le-ltb, lt-ltb}
use Rattle.std.specs.Prelude.{Option, cond, filter, nat_le}
use Rattle.std.specs.List.{flat_map}
use Rattle.std.proofs.lemmas.Bool.Decides.{nat_tests}
use Rattle.std.proofs.lemmas.List.Concat.{flat_map-append}
use Rattle.std.proofs.lemmas.Option.{none-some, same_Some}
use Rattle.keeper_memory.specs.copy.Copies.{NumbersRise, entry_after}
use Rattle.keeper_memory.specs.declared.copy.entry.OutEntry.{OutEntry}
use Rattle.consumer_commands.specs.SendLines.{entry_text}

-- the entries with numbers up to this one
abbrev pub up_to : ℕ → List OutEntry → List OutEntry
up_to most entries = filter (λ entry. nat_le entry.number most) entries

-- the numbers rise, each above the one before it, and none is above the last
abbrev pub RiseTo : ℕ → List OutEntry → ℕ → Type 0
RiseTo low [] most = low ≤ most
RiseTo low (entry ∷ entries) most = (low < entry.number) × RiseTo entry.number entries most

pub rise_on : (low most : ℕ) (entries : List OutEntry) (entry : OutEntry) → RiseTo low entries most → most < entry.number → RiseTo low (entries ++ entry ∷ []) entry.number
rise_on low most [] entry rise lt = (omega (arith, rise, lt), omega arith)
rise_on low most (first ∷ entries) entry rise lt = (rise.0, rise_on first.number most entries entry rise.1 lt)

pub rise_of : (low most : ℕ) (entries : List OutEntry) → RiseTo low entries most → NumbersRise low entries
rise_of low most [] rise = tt
rise_of low most (first ∷ entries) rise = (rise.0, rise_of first.number most entries rise.1)

low_test : (a b : ℕ) → a ≤ b → nat_le a b ≡ true
low_test a b le = grind (arith, nat_tests)

high_test : (a b : ℕ) → b < a → nat_le a b ≡ false
high_test a b lt = grind (arith, nat_tests)

split : (a b : ℕ) (X : Type 0) → (a ≤ b → X) → (b < a → X) → X
split a b X low high = elim (nat_le a b) as (λ t. nat_le a b ≡ t → X) [
  | true ↦ λ e. low (grind (arith, nat_tests, e))
  | false ↦ λ e. high (grind (arith, nat_tests, e))
] refl

pub none_up_to : (most low : ℕ) (entries : List OutEntry) → most ≤ low → NumbersRise low entries → up_to most entries ≡ []
none_up_to most low [] le rise = refl
none_up_to most low (first ∷ entries) le rise =
    ap (λ b. cond b (first ∷ up_to most entries) (up_to most entries)) (high_test first.number most (omega (arith, le, rise.0)))
    ∙ none_up_to most first.number entries (omega (arith, le, rise.0)) rise.1

-- the next entry follows those up to the number
pub next_up_to : (after low : ℕ) (entries : List OutEntry) (entry : OutEntry) → NumbersRise low entries → entry_after after entries ≡ Some entry → up_to entry.number entries ≡ up_to after entries ++ entry ∷ []
next_up_to after low [] entry rise e = let no : None ≡ Some entry = e in cc
next_up_to after low (first ∷ entries) entry rise e = split first.number after (up_to entry.number (first ∷ entries) ≡ up_to after (first ∷ entries) ++ entry ∷ [])
    (λ le. let rest : entry_after after entries ≡ Some entry = sym (ap (λ b. cond b (Some first) (entry_after after entries)) (le-ltb after first.number le)) ∙ e in
    let above = after_above after first.number entries entry rise.1 rest in
    ap (λ b. cond b (first ∷ up_to entry.number entries) (up_to entry.number entries)) (low_test first.number entry.number (omega (arith, above)))
    ∙ ap (λ es. first ∷ es) (next_up_to after first.number entries entry rise.1 rest)
    ∙ sym (ap (λ b. cond b (first ∷ up_to after entries) (up_to after entries) ++ entry ∷ []) (low_test first.number after le)))
    (λ lt. let same : first ≡ entry = same_Some _ _ (sym (ap (λ b. cond b (Some first) (entry_after after entries)) (lt-ltb after first.number lt)) ∙ e) in
    subst (λ (x : OutEntry). up_to x.number (first ∷ entries) ≡ up_to after (first ∷ entries) ++ x ∷ []) same
    (ap (λ b. cond b (first ∷ up_to first.number entries) (up_to first.number entries)) (low_test first.number first.number (omega arith))
    ∙ ap (λ es. first ∷ es) (none_up_to first.number first.number entries (omega arith) rise.1)
    ∙ sym (ap (λ b. cond b (first ∷ up_to after entries) (up_to after entries) ++ first ∷ []) (high_test first.number after lt)
    ∙ ap (λ es. es ++ first ∷ []) (none_up_to after first.number entries (omega (arith, lt)) rise.1))))
  where
    after_above : (after low : ℕ) (entries : List OutEntry) (entry : OutEntry) → NumbersRise low entries → entry_after after entries ≡ Some entry → low < entry.number
    after_above after low [] entry rise e = let no : None ≡ Some entry = e in cc
    after_above after low (first ∷ entries) entry rise e = split first.number after (low < entry.number)
        (λ le. let above = after_above after first.number entries entry rise.1 (sym (ap (λ b. cond b (Some first) (entry_after after entries)) (le-ltb after first.number le)) ∙ e) in omega (arith, above, rise.0))
        (λ lt. subst (λ (x : OutEntry). low < x.number) (same_Some _ _ (sym (ap (λ b. cond b (Some first) (entry_after after entries)) (lt-ltb after first.number lt)) ∙ e)) rise.0)

-- where none follows, these are all
pub all_up_to : (after : ℕ) (entries : List OutEntry) → entry_after after entries ≡ None → up_to after entries ≡ entries
all_up_to after [] e = refl
all_up_to after (first ∷ entries) e = split first.number after (up_to after (first ∷ entries) ≡ first ∷ entries)
    (λ le. ap (λ b. cond b (first ∷ up_to after entries) (up_to after entries)) (low_test first.number after le)
    ∙ ap (λ es. first ∷ es) (all_up_to after entries (sym (ap (λ b. cond b (Some first) (entry_after after entries)) (le-ltb after first.number le)) ∙ e)))
    (λ lt. absurd (none-some _ (sym (sym (ap (λ b. cond b (Some first) (entry_after after entries)) (lt-ltb after first.number lt)) ∙ e))))

pub none_of : (o : Option OutEntry) → ((entry : OutEntry) → o ≡ Some entry → ⊥) → o ≡ None
none_of None other = refl
none_of (Some entry) other = absurd (other entry refl)

-- the lines of one entry more
pub lines_on : (entries : List OutEntry) (entry : OutEntry) → flat_map entry_text (entries ++ entry ∷ []) ≡ flat_map entry_text entries ++ entry_text entry
lines_on entries entry = flat_map-append entry_text entries (entry ∷ []) ∙ ap (λ t. flat_map entry_text entries ++ t) (append-nil (entry_text entry))
