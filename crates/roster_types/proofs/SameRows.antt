-- Rows that are equal in all but the date.
use Rattle.std.proofs.Common.{◌≡◌, ◌<◌, ◌≤◌, ◌+◌, ℕ, Bool, List, [], ◌∷◌, ◌++◌, Option, None, length, get_or, take, ap}
use Rattle.std.proofs.Common.{sym, ◌∙◌, refl, arith, add-one}
use Rattle.std.proofs.Math.Seq.{take-suc}
use Rattle.std.proofs.lemmas.List.{take_all}
use Rattle.std.specs.Bool.{Decides}
use Rattle.roster_values.specs.declared.value.Value.{Value}
use Rattle.roster_types.specs.Records.{IsFitting, Record, SameButDate}
use Rattle.roster_types.specs.Shapes.{own_fields}
use Rattle.roster_types.proofs.Fitting.{fits_all-length, own_values_fit}

-- where all else is equal, the own values decide
pub by_values : (r s : Record) (b : Bool) → r.kind ≡ s.kind → r.id ≡ s.id → r.status ≡ s.status → r.metadata ≡ s.metadata → Decides b (r.values ≡ s.values) → Decides b (SameButDate r s)
by_values r s b kind id status metadata d =
    (λ h. let values = d.0 h in rw (kind, id, status, metadata, values) refl, λ same. d.1 (ap (λ (t : Record). t.values) same))

-- rows of one kind have as many values
pub as_many : (r s : Record) → IsFitting r → IsFitting s → r.kind ≡ s.kind → length r.values ≡ length s.values
as_many r s a b kind =
    sym (fits_all-length (own_fields r.kind) r.values (own_values_fit r a)) ∙ ap (λ k. length (own_fields k)) kind ∙ fits_all-length (own_fields s.kind) s.values (own_values_fit s b)

pub one_more : (xs ys : List (Option Value)) (n : ℕ) → length xs ≡ length ys → n < length xs → take n xs ≡ take n ys → get_or xs n None ≡ get_or ys n None → take (n + 1) xs ≡ take (n + 1) ys
one_more xs ys n l h front here =
    rw (add-one n) (take-suc xs n None h ∙ ap (λ vs. vs ++ get_or xs n None ∷ []) front ∙ ap (λ v. take n ys ++ v ∷ []) here ∙ sym (take-suc ys n None (omega (arith, l, h))))

pub all_places : (xs ys : List (Option Value)) (n : ℕ) → length xs ≡ length ys → length xs ≤ n → take n xs ≡ take n ys → xs ≡ ys
all_places xs ys n l h front = sym (take_all n xs h) ∙ front ∙ take_all n ys (omega (arith, l, h))
