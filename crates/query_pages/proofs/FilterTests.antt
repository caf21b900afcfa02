-- Comparisons that are made ready ask what the comparisons ask.
use Rattle.std.proofs.Common.{◌≡◌, ◌∙◌, ℕ, List, Bool, true, false, not, Option, Some, None, option_and_then, refl, ap}
use Rattle.std.proofs.lemmas.Map.Text.{is_eq-slice_cmp}
use Rattle.std.specs.Prelude.{slice_index_or}
use Rattle.std.specs.Option.{option_map_or}
use Rattle.std.specs.Ordering.{is_eq, is_ne}
use Rattle.std.specs.declared.cmp.Ordering.{Ordering}
use Rattle.std.specs.declared.cmp.Ordering.TheVariants as order
use Rattle.filter_grammar.specs.Manners.{AsNumber, AsText, manner_of, number_of_text}
use Rattle.filter_grammar.specs.Subjects.{OfTable, subject_of}
use Rattle.filter_grammar.specs.declared.filter.Comparison.{Comparison}
use Rattle.filter_grammar.specs.declared.filter.Predicate.{Predicate}
use Rattle.filter_grammar.specs.declared.filter.Predicate.TheVariants.{Equal, NotEqual, Greater, GreaterEqual, Less}
use Rattle.filter_grammar.specs.declared.filter.Predicate.TheVariants.{LessEqual, Contains}
use Rattle.filter_grammar.specs.rows.Filters.{comparison_passes, folded, subject_passes, value_passes}
use Rattle.query_pages.specs.FilterTests.{is_of_order, number_passes, text_passes}
use Rattle.roster_types.specs.Records.{Record, all_values, place_in}
use Rattle.roster_values.specs.CellText.{cell_text}
use Rattle.roster_values.specs.Table.{Form, Info, table}
use Rattle.roster_values.specs.declared.kind.Kind.{Kind}
use Rattle.roster_values.specs.declared.value.Value.{Value}

unequal : (o : Ordering) → is_ne o ≡ not (is_eq o)
unequal order.Less = refl
unequal order.Equal = refl
unequal order.Greater = refl

pub equal_texts : (form : Form) (text : List ℕ) (v : Option Value) → value_passes AsText form Equal v text ≡ text_passes true text v
equal_texts form text None = refl
equal_texts form text (Some v) = is_eq-slice_cmp (folded (cell_text v)) (folded text)

pub unequal_texts : (form : Form) (text : List ℕ) (v : Option Value) → value_passes AsText form NotEqual v text ≡ text_passes false text v
unequal_texts form text None = refl
unequal_texts form text (Some v) = unequal _ ∙ ap not (is_eq-slice_cmp (folded (cell_text v)) (folded text))

-- numbers in order are asked for by the number that the text reads as
pub ordered_numbers : (p : Predicate) (form : Form) (text : List ℕ) (v : Option Value) → is_of_order p ≡ true → value_passes AsNumber form p v text ≡ number_passes p (number_of_text form text) v
ordered_numbers p form text None e = refl
ordered_numbers Equal form text (Some v) e = refl
ordered_numbers NotEqual form text (Some v) e = refl
ordered_numbers Greater form text (Some v) e = refl
ordered_numbers GreaterEqual form text (Some v) e = refl
ordered_numbers Less form text (Some v) e = refl
ordered_numbers LessEqual form text (Some v) e = refl
ordered_numbers Contains form text (Some v) e = cc

-- what is asked at the place of the field is asked of the rows of the kind
pub asked_at : (kind : Kind) (info : Info) (c : Comparison) (place : ℕ) (asks : Option Value → Bool) (row : Record) → subject_of kind c.field ≡ Some (OfTable info) → place_in (table kind) info.name ≡ Some place
    → ((v : Option Value) → value_passes (manner_of info.form) info.form c.predicate v c.value ≡ asks v)
    → row.kind ≡ kind → comparison_passes c row ≡ asks (slice_index_or (all_values row) place None)
unfolding comparison_passes
asked_at kind info c place asks row subject at same of =
    let here : subject_of row.kind c.field ≡ Some (OfTable info) = ap (λ (k : Kind). subject_of k c.field) of ∙ subject in
    let there : place_in (table row.kind) info.name ≡ Some place = ap (λ (k : Kind). place_in (table k) info.name) of ∙ at in
    ap (λ s. option_map_or (subject_passes c row) s false) here
    ∙ same (option_and_then (λ i. slice_index_or (all_values row) i None) (place_in (table row.kind) info.name))
    ∙ ap (λ o. asks (option_and_then (λ i. slice_index_or (all_values row) i None) o)) there
