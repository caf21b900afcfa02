-- Filters that are made ready, as the rows of a kind are asked for them.
use Rattle.std.specs.Prelude.{◌≡◌, ℕ, ℤ, Bool, true, false, not, List, Option, Some, None, slice_index_or}
use Rattle.std.specs.Str.{str_eq_ignore_ascii_case}
use Rattle.filter_grammar.specs.Manners.{manner_of, number_in}
use Rattle.filter_grammar.specs.declared.filter.Predicate.{Predicate}
use Rattle.filter_grammar.specs.declared.filter.Predicate.TheVariants.{Contains}
use Rattle.filter_grammar.specs.rows.Filters.{is_not_equal, joined, numbers_pass, value_passes}
use Rattle.query_pages.specs.declared.field_test.FieldTest.{FieldTest}
use Rattle.query_pages.specs.declared.field_test.ValueTest.{ValueTest}
use Rattle.query_pages.specs.declared.field_test.ValueTest.TheVariants.{IsText, ByNumber, AsGiven}
use Rattle.query_pages.specs.declared.filter_test.ReadyFilter.{ReadyFilter}
use Rattle.query_pages.specs.declared.filter_test.ReadyFilter.TheVariants.{One, Two}
use Rattle.roster_types.specs.Records.{Record, all_values}
use Rattle.roster_values.specs.CellText.{cell_text}
use Rattle.roster_values.specs.Table.{Form, form_of}
use Rattle.roster_values.specs.declared.value.Value.{Value}

-- the text of a value is this one in any case of the letters
abbrev pub is_text : Value → List ℕ → Bool
is_text v text = str_eq_ignore_ascii_case (cell_text v) text

-- the text is this one where that is wanted, and another one where it isn't; an absent value differs from all texts
abbrev pub text_passes : Bool → List ℕ → Option Value → Bool
text_passes true text None = false
text_passes false text None = true
text_passes true text (Some v) = is_text v text
text_passes false text (Some v) = not (is_text v text)

-- all predicates but `~` ask how two things stand in order
abbrev pub is_of_order : Predicate → Bool
is_of_order Contains = false
is_of_order _ = true

-- the number of a value compares so with the wanted one, if that could be read; an absent value differs from all
abbrev pub number_passes : Predicate → Option ℤ → Option Value → Bool
number_passes predicate wanted None = is_not_equal predicate
number_passes predicate wanted (Some v) = numbers_pass predicate (number_in (Some v)) wanted

-- the value passes the test
abbrev pub value_test_passes : ValueTest → Option Value → Bool
value_test_passes (IsText wanted text) v = text_passes wanted text.now v
value_test_passes (ByNumber predicate wanted) v = number_passes predicate wanted v
value_test_passes (AsGiven form predicate text) v = value_passes (manner_of (form_of form)) (form_of form) predicate v text.now

-- the test asks of each value what a comparison of this form, predicate and text does
abbrev pub Asks : Form → Predicate → List ℕ → ValueTest → Type 0
Asks form predicate text test = (v : Option Value) → value_passes (manner_of form) form predicate v text ≡ value_test_passes test v

-- the value at the place passes
abbrev pub field_test_passes : FieldTest → Record → Bool
field_test_passes test row = value_test_passes test.asked (slice_index_or (all_values row) test.place None)

-- the row passes the filter
abbrev pub ready_filter_passes : ReadyFilter → Record → Bool
ready_filter_passes (One test) row = field_test_passes test row
ready_filter_passes (Two first joint second) row = joined joint (field_test_passes first row) (field_test_passes second row)
