-- How many rows of a kind stand after changes.
use Rattle.std.proofs.Common.{◌≡◌, ◌+◌, ◌<◌, ◌≤◌, ℕ, zero, suc, Bool, List, [], ◌∷◌, ◌++◌, true, false, cond, not, ◌&&◌}
use Rattle.std.proofs.Common.{◌||◌, add-zero, drop, get_or, length, take, IfSome, Option, None, Some, refl, sym, ap}
use Rattle.std.proofs.Common.{subst, ◌∙◌, arith, inl, inr}
use Rattle.std.proofs.Math.Bool.{and-false}
use Rattle.std.specs.Prelude.{count_by, is_some}
use Rattle.std.specs.List.{list_any}
use Rattle.std.specs.Option.{option_or}
use Rattle.std.proofs.lemmas.Bool.{cases_eq}
use Rattle.std.proofs.lemmas.List.{drop_all, take_more}
use Rattle.std.proofs.lemmas.List.Sums.{sum_by-cons}
use Rattle.roster_types.specs.Keys.{Key, count_of, is_of_kind, look_up}
use Rattle.roster_values.specs.declared.kind.Kind.{Kind}
use Rattle.version_changes.specs.sets.Steps.{added, is_added}
use Rattle.version_changes.proofs.CountLemmas.{count-overlaid}
use Rattle.version_core.specs.Changes.{AreChanges, change_key, rows_of}
use Rattle.version_core.specs.Order.{overlaid}
use Rattle.version_core.specs.Version.{row_limit}
use Rattle.version_core.specs.declared.change.Change.{Change}
use Rattle.version_core.specs.declared.row_change.RowChange.{RowChange}
use Rattle.version_core.proofs.OrderLemmas.{Ascends-overlaid, look_up-overlaid}
use Rattle.version_changes.specs.sound.Behind.{rows_behind}
use Rattle.version_changes.proofs.AdjacentLemmas.{drop_more}

abbrev pub has : Key → List RowChange → Bool
has k rows = is_some (look_up change_key k rows)

some_or : {X : Type 0} (a b : Option X) → is_some (option_or a b) ≡ (is_some b || is_some a)
some_or None None = refl
some_or None (Some y) = refl
some_or (Some x) None = refl
some_or (Some x) (Some y) = refl

or_assoc : (a b c : Bool) → ((a || b) || c) ≡ (a || (b || c))
or_assoc true b c = refl
or_assoc false b c = refl

-- a key stands after changes where it stood before, or in one of them
pub has_behind : (k : Key) (rows : List RowChange) (changes : List Change) → has k (rows_behind rows changes) ≡ (has k rows || list_any (λ change. has k change.rows) changes)
has_behind k rows [] = or_false (has k rows)
  where
    or_false : (b : Bool) → b ≡ (b || false)
    or_false true = refl
    or_false false = refl
has_behind k rows (change ∷ changes) =
    has_behind k (overlaid change_key rows change.rows) changes
    ∙ ap (λ b. b || list_any (λ change. has k change.rows) changes) (ap is_some (look_up-overlaid change_key k rows change.rows) ∙ some_or (look_up change_key k change.rows) (look_up change_key k rows))
    ∙ or_assoc (has k rows) (has k change.rows) (list_any (λ change. has k change.rows) changes)

pub not_of_kind : (kind : Kind) (rows : List RowChange) (change : RowChange) → is_of_kind kind change.row ≡ false → false ≡ is_added kind rows change
not_of_kind kind rows change other = sym (ap (λ b. b && not (has (change_key change) rows)) other)

pub not_new : (kind : Kind) (rows : List RowChange) (changes : List Change) (change : RowChange) → has (change_key change) rows ≡ true → false ≡ is_added kind (rows_behind rows changes) change
not_new kind rows changes change stands =
    let there = has_behind (change_key change) rows changes ∙ ap (λ b. b || list_any (λ other. has (change_key change) other.rows) changes) stands in
    sym (ap (λ b. is_of_kind kind change.row && not b) there ∙ and-false (is_of_kind kind change.row))

pub new_where : (kind : Kind) (rows : List RowChange) (changes : List Change) (change : RowChange) → is_of_kind kind change.row ≡ true → has (change_key change) rows ≡ false
    → not (list_any (λ other. has (change_key change) other.rows) changes) ≡ is_added kind (rows_behind rows changes) change
new_where kind rows changes change same misses =
    let there = has_behind (change_key change) rows changes ∙ ap (λ b. b || list_any (λ other. has (change_key change) other.rows) changes) misses in
    sym ((λ i. same i && not (there i)))

-- one counted more, or not
pub count_more : {X : Type 0} (p : X → Bool) (xs : List X) (k : ℕ) (x : X) (count : ℕ) → count + count_by p (drop k xs) ≡ count_by p xs → k < length xs → x ≡ get_or xs k x → (count + cond (p x) 1 0) + count_by p (drop (k + 1) xs) ≡ count_by p xs
count_more p xs k x count so_far lt is =
    let split : drop k xs ≡ x ∷ drop (k + 1) xs = rw (drop_more xs k x lt, ← is) refl in
    let counted = ap (count_by p) split ∙ sum_by-cons (λ x. cond (p x) 1 0) x (drop (k + 1) xs) in
    added_up count (count_by p (drop k xs)) (cond (p x) 1 0) (count_by p (drop (k + 1) xs)) counted ∙ so_far
  where
    added_up : (a b c d : ℕ) → b ≡ c + d → (a + c) + d ≡ a + b
    added_up a b c d same = omega arith

rows_behind-push : (rows : List RowChange) (changes : List Change) (change : Change) → rows_behind rows (changes ++ change ∷ []) ≡ overlaid change_key (rows_behind rows changes) change.rows
rows_behind-push rows [] change = refl
rows_behind-push rows (first ∷ changes) change = rows_behind-push (overlaid change_key rows first.rows) changes change

pub ascend_behind : (rows : List RowChange) (changes : List Change) → AreChanges rows → AreChanges (rows_behind rows changes)
ascend_behind rows [] up = up
ascend_behind rows (change ∷ changes) up = ascend_behind (overlaid change_key rows change.rows) changes (Ascends-overlaid change_key rows change.rows up)

-- the count after one change more
pub counted_more : (kind : Kind) (rows : List RowChange) (changes : List Change) (k : ℕ) (change : Change) → AreChanges rows → AreChanges change.rows → k < length changes → change ≡ get_or changes k change
    → count_of kind (rows_of (rows_behind rows (take (k + 1) changes))) ≡ count_of kind (rows_of (rows_behind rows (take k changes))) + added kind (rows_behind rows (take k changes)) change.rows
counted_more kind rows changes k change up own lt is =
    let more : take (k + 1) changes ≡ take k changes ++ change ∷ [] = rw (take_more changes k change lt, ← is) refl in
    ap (λ cs. count_of kind (rows_of (rows_behind rows cs))) more ∙ ap (λ rs. count_of kind (rows_of rs)) (rows_behind-push rows (take k changes) change)
    ∙ count-overlaid kind (rows_behind rows (take k changes)) change.rows (ascend_behind rows (take k changes) up) own

-- up to one place more there are few
pub few_more : (kind : Kind) (rows : List RowChange) (changes : List Change) (k : ℕ) → ((n : ℕ) → n ≤ k → count_of kind (rows_of (rows_behind rows (take n changes))) ≤ row_limit)
    → count_of kind (rows_of (rows_behind rows (take (k + 1) changes))) ≤ row_limit → (n : ℕ) → n ≤ k + 1 → count_of kind (rows_of (rows_behind rows (take n changes))) ≤ row_limit
few_more kind rows changes k so_far next n le = elim (cases_eq n (k + 1)) [
  | inl same ↦ subst (λ m. count_of kind (rows_of (rows_behind rows (take m changes))) ≤ row_limit) (sym same) next
  | inr apart ↦ so_far n (omega (arith, le, apart))
]

pub count_left : {X : Type 0} (p : X → Bool) (xs : List X) (k count : ℕ) → count + count_by p (drop k xs) ≡ count_by p xs → length xs ≤ k → count ≡ count_by p xs
count_left p xs k count so_far le = sym (add-zero count) ∙ ap (λ rest. count + count_by p rest) (sym (drop_all k xs le)) ∙ so_far

pub few_start : (kind : Kind) (rows : List RowChange) (changes : List Change) → count_of kind (rows_of rows) ≤ row_limit → (n : ℕ) → n ≤ 0 → count_of kind (rows_of (rows_behind rows (take n changes))) ≤ row_limit
few_start kind rows [] few zero none = few
few_start kind rows (change ∷ changes) few zero none = few
few_start kind rows changes few (suc n) none = absurd (omega arith)

pub if_some : {X : Type 0} (o : Option X) (P Q : X → Type 0) → ((x : X) → P x → Q x) → IfSome o P → IfSome o Q
if_some (Some x) P Q f p = f x p
if_some None P Q f p = tt
