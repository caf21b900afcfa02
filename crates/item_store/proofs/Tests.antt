-- What the WHERE of a range tests of a row.
use Rattle.std.proofs.Common.{◌≡◌, ℕ, ℤ, pos, List, [], ◌∷◌, Bool, true, false, ◌&&◌, ◌==◌, Some, refl, ap, ap₂, ◌∙◌}
use Rattle.std.proofs.Common.{arith}
use Rattle.std.proofs.lemmas.Bool.Decides.{nat_tests}
use Rattle.std.specs.Ordering.{int_cmp, is_lt, is_ge, is_eq}
use Rattle.std.specs.List.{list_all}
use Rattle.sqlite.specs.declared.types.Value.TheVariants.{Int, Blob}
use Rattle.sqlite.specs.Order.{Row, value_cmp}
use Rattle.sqlite.specs.Ops.{binary, is_true, from_truth}
use Rattle.sqlite.specs.Term.{holds}
use Rattle.sqlite_value.proofs.OrderLemmas.{value_cmp-Int, value_cmp-Blob}
use Rattle.item_maps.specs.Items.{is_between, bytes_cmp}
use Rattle.item_store.specs.Items.{params_of, row_of}
use Rattle.item_store.proofs.Texts.{in_range_terms}

pub truth_is : (b : Bool) → is_true (from_truth (Some b)) ≡ b
truth_is true = refl
truth_is false = refl

pub same_area : (a b : ℕ) → is_eq (int_cmp (pos a) (pos b)) ≡ (a == b)
same_area a b = grind (arith, nat_tests)

regrouped : (e g l : Bool) → (e && (g && (l && true))) ≡ (e && ((g && l) && true))
regrouped e true l = refl
regrouped e false l = refl

pub passes : (area : ℕ) (from to : List ℕ) (more : Row) (id : ℤ) (a : ℕ) (label body : List ℕ)
    → list_all (holds (params_of area from to more ∷ row_of id a label body ∷ [])) in_range_terms ≡ ((a == area) && (is_between from to label && true))
unfolding binary
passes area from to more id a label body =
    let one : is_true (from_truth (Some (is_eq (value_cmp (Int (pos a)) (Int (pos area)))))) ≡ (a == area) = truth_is _ ∙ ap is_eq (value_cmp-Int (pos a) (pos area)) ∙ same_area a area in
    let two : is_true (from_truth (Some (is_ge (value_cmp (Blob label) (Blob from))))) ≡ is_ge (bytes_cmp label from) = truth_is _ ∙ ap is_ge (value_cmp-Blob label from) in
    let three : is_true (from_truth (Some (is_lt (value_cmp (Blob label) (Blob to))))) ≡ is_lt (bytes_cmp label to) = truth_is _ ∙ ap is_lt (value_cmp-Blob label to) in
    ap₂ (λ (e : Bool) (r : Bool). e && r) one (ap₂ (λ (g : Bool) (l : Bool). g && (l && true)) two three) ∙ regrouped (a == area) (is_ge (bytes_cmp label from)) (is_lt (bytes_cmp label to))
