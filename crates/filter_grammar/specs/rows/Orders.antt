-- The order of a list.
use Rattle.std.specs.Prelude.{ℕ, Bool, List, [], ◌∷◌, Option, Some, None, if◌then◌else◌, unwrap_or}
use Rattle.std.specs.Cmp.Lexicographic.{slice_cmp}
use Rattle.std.specs.Ordering.{int_cmp, is_lt, nat_cmp, ordering_reverse}
use Rattle.std.specs.declared.cmp.Ordering.{Ordering}
use Rattle.std.specs.declared.cmp.Ordering.TheVariants as by
use Rattle.filter_grammar.specs.rows.Filters.{folded}
use Rattle.filter_grammar.specs.rows.SubjectValues.{subject_value}
use Rattle.filter_grammar.specs.Subjects.{Subject, subject_of}
use Rattle.filter_grammar.specs.declared.query.Order.{Order}
use Rattle.filter_grammar.specs.declared.query.Order.TheVariants.{Asc, Desc}
use Rattle.filter_grammar.specs.declared.query.Query.{Query}
use Rattle.filter_grammar.specs.declared.rows.sort_key.SortKey.{SortKey}
use Rattle.filter_grammar.specs.declared.rows.sort_key.SortKey.TheVariants.{Absent, ByNumber, ByText}
use Rattle.roster_types.specs.Records.{Record}
use Rattle.roster_values.specs.declared.kind.Kind.{Kind}
use Rattle.roster_values.specs.declared.value.Value.{Value}
use Rattle.roster_values.specs.declared.value.Value.TheVariants.{Day, Id, Moment, Number}
use Rattle.roster_values.specs.CellText.{cell_text}

-- days, moments and numbers by their numbers, the row's own id by its bytes, all else by its cell's text in lower case
abbrev pub value_key : Option Value → SortKey
value_key None = Absent
value_key (Some (Day day)) = ByNumber day
value_key (Some (Moment moment)) = ByNumber moment
value_key (Some (Number n)) = ByNumber n
value_key (Some (Id id)) = ByText id
value_key (Some v) = ByText (folded (cell_text v))

-- what is absent comes first; keys of one field are of one form
abbrev pub sort_key_cmp : SortKey → SortKey → Ordering
sort_key_cmp Absent Absent = by.Equal
sort_key_cmp Absent _ = by.Less
sort_key_cmp _ Absent = by.Greater
sort_key_cmp (ByNumber n) (ByNumber m) = int_cmp n m
sort_key_cmp (ByNumber n) (ByText t) = by.Less
sort_key_cmp (ByText s) (ByNumber m) = by.Greater
sort_key_cmp (ByText s) (ByText t) = slice_cmp nat_cmp s t

abbrev pub directed : Order → Ordering → Ordering
directed Asc order = order
directed Desc order = ordering_reverse order

-- the key of a row, and the direction
pub record Sorting : Type 0 where
  pub key : Record → SortKey
  pub order : Order

abbrev pub by_id : Order → Sorting
by_id order = record { key = λ row. ByText row.id; order = order }

-- by a field; a field that the kind doesn't have gives the rows as they are, by ascending id
abbrev pub by_subject : Order → Option Subject → Sorting
by_subject order None = by_id Asc
by_subject order (Some subject) = record { key = λ row. value_key (subject_value subject row); order = order }

abbrev pub by_name : Kind → Order → Option (List ℕ) → Sorting
by_name kind order None = by_id order
by_name kind order (Some name) = by_subject order (subject_of kind name)

-- the order that a query asks for
abbrev pub sorting_of : Kind → Query → Sorting
sorting_of kind query = by_name kind (unwrap_or query.order_by Asc) query.sort

abbrev pub comes_before : Sorting → Record → Record → Bool
comes_before sorting row other = is_lt (directed sorting.order (sort_key_cmp (sorting.key row) (sorting.key other)))

-- the row behind those that come before it
abbrev pub put_in : Sorting → Record → List Record → List Record
put_in sorting row [] = row ∷ []
put_in sorting row (other ∷ rows) = if comes_before sorting other row then other ∷ put_in sorting row rows else row ∷ other ∷ rows

-- the rows in order; where keys are equal, as they stood, which is by ascending id in either direction
unfoldable pub arranged : Sorting → List Record → List Record
arranged sorting [] = []
arranged sorting (row ∷ rows) = put_in sorting row (arranged sorting rows)
