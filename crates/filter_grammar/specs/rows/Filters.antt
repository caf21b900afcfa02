-- What a filter lets through.
use Rattle.std.specs.Prelude.{ℕ, ℤ, ◌&&◌, ◌||◌, Bool, true, false, not, List, [], ◌∷◌, Option, Some, None, bytes_eq}
use Rattle.std.specs.Prelude.{map, nat_eq}
use Rattle.std.specs.Cmp.Lexicographic.{slice_cmp}
use Rattle.std.specs.List.{list_all, list_any, starts_with}
use Rattle.std.specs.Option.{option_map_or}
use Rattle.std.specs.Ordering.{int_cmp, is_eq, is_ge, is_gt, is_le, is_lt, is_ne, nat_cmp}
use Rattle.std.specs.Str.{str_to_ascii_lowercase}
use Rattle.std.specs.declared.cmp.Ordering.{Ordering}
use Rattle.filter_grammar.specs.Manners.{AsNumber, AsSet, AsText, Manner, manner_of, number_in, number_of_text}
use Rattle.filter_grammar.specs.rows.SubjectValues.{subject_value}
use Rattle.filter_grammar.specs.Subjects.{Subject, form_of_subject, subject_of}
use Rattle.filter_grammar.specs.declared.filter.Comparison.{Comparison}
use Rattle.filter_grammar.specs.declared.filter.Filter.{Filter}
use Rattle.filter_grammar.specs.declared.filter.Joint.{Joint}
use Rattle.filter_grammar.specs.declared.filter.Joint.TheVariants.{And, Or}
use Rattle.filter_grammar.specs.declared.filter.Predicate.{Predicate}
use Rattle.filter_grammar.specs.declared.filter.Predicate.TheVariants.{Equal, NotEqual, Greater, GreaterEqual, Less}
use Rattle.filter_grammar.specs.declared.filter.Predicate.TheVariants.{LessEqual, Contains}
use Rattle.roster_types.specs.Records.{Record}
use Rattle.roster_values.specs.declared.value.Value.{Value}
use Rattle.roster_values.specs.declared.value.Value.TheVariants.{Refs, Texts, UserIds}
use Rattle.roster_values.specs.CellText.{cell_text, user_id_text}
use Rattle.roster_values.specs.Lists.{items_of}
use Rattle.roster_values.specs.Table.{Form}

-- letters of ASCII in lower case
abbrev pub folded : List ℕ → List ℕ
folded text = str_to_ascii_lowercase text

-- a text stands somewhere in another
unfoldable pub occurs_in : List ℕ → List ℕ → Bool
occurs_in part [] = starts_with nat_eq [] part
occurs_in part (b ∷ text) = starts_with nat_eq (b ∷ text) part || occurs_in part text

-- a predicate holds of two things that stand so to each other in order; `Contains` asks for no order, and never holds
abbrev pub holds : Predicate → Ordering → Bool
holds Equal order = is_eq order
holds NotEqual order = is_ne order
holds Greater order = is_gt order
holds GreaterEqual order = is_ge order
holds Less order = is_lt order
holds LessEqual order = is_le order
holds Contains order = false

abbrev pub folded_passes : Predicate → List ℕ → List ℕ → Bool
folded_passes Contains text value = occurs_in value text
folded_passes predicate text value = holds predicate (slice_cmp nat_cmp text value)

abbrev pub text_passes : Predicate → List ℕ → List ℕ → Bool
text_passes predicate text value = folded_passes predicate (folded text) (folded value)

abbrev pub numbers_pass : Predicate → Option ℤ → Option ℤ → Bool
numbers_pass predicate (Some n) (Some m) = holds predicate (int_cmp n m)
numbers_pass predicate _ _ = false

-- a day, a moment or a number; a part is looked for as it is given
abbrev pub number_passes : Form → Predicate → Value → List ℕ → Bool
number_passes form Contains v value = occurs_in value (cell_text v)
number_passes form predicate v value = numbers_pass predicate (number_in (Some v)) (number_of_text form value)

-- the members of a list
abbrev pub members_in : Option Value → List (List ℕ)
members_in (Some (Texts texts)) = texts
members_in (Some (UserIds ids)) = map user_id_text ids
members_in (Some (Refs ids)) = ids
members_in _ = []

abbrev pub is_one_of : List (List ℕ) → List ℕ → Bool
is_one_of items item = list_any (λ other. bytes_eq other item) items

abbrev pub are_among : List (List ℕ) → List (List ℕ) → Bool
are_among some all = list_all (is_one_of all) some

abbrev pub set_passes : Predicate → List (List ℕ) → List (List ℕ) → Bool
set_passes Equal items value = are_among items value && are_among value items
set_passes NotEqual items value = not (are_among items value && are_among value items)
set_passes Contains items value = list_any (is_one_of value) items
set_passes _ items value = false

abbrev pub is_not_equal : Predicate → Bool
is_not_equal NotEqual = true
is_not_equal _ = false

-- a value passes; one that isn't there is unequal to all, and a list that isn't there is empty
abbrev pub value_passes : Manner → Form → Predicate → Option Value → List ℕ → Bool
value_passes AsSet form predicate v value = set_passes predicate (map folded (members_in v)) (map folded (items_of value))
value_passes AsText form predicate None value = is_not_equal predicate
value_passes AsText form predicate (Some v) value = text_passes predicate (cell_text v) value
value_passes AsNumber form predicate None value = is_not_equal predicate
value_passes AsNumber form predicate (Some v) value = number_passes form predicate v value

abbrev pub subject_passes : Comparison → Record → Subject → Bool
subject_passes c row subject = value_passes (manner_of (form_of_subject subject)) (form_of_subject subject) c.predicate (subject_value subject row) c.value

unfoldable pub comparison_passes : Comparison → Record → Bool
comparison_passes c row = option_map_or (subject_passes c row) (subject_of row.kind c.field) false

abbrev pub joined : Joint → Bool → Bool → Bool
joined And first second = first && second
joined Or first second = first || second

abbrev pub passes_with : Bool → Option (Joint × Comparison) → Record → Bool
passes_with first None row = first
passes_with first (Some second) row = joined second.0 first (comparison_passes second.1 row)

-- the row passes the filter, where there is one
abbrev pub passes : Option Filter → Record → Bool
passes None row = true
passes (Some filter) row = passes_with (comparison_passes filter.first row) filter.second row
