-- How long a row is: the bytes of its JSON object, compact, written with the status `tobedeleted`.
use Rattle.std.specs.Prelude.{ℕ, ◌+◌, ◌-◌, ◌||◌, ◌==◌, Bool, List, [], ◌∷◌, Option, None, Some, codes, length, map}
use Rattle.std.specs.Prelude.{nat_lt, sum_by, if◌then◌else◌}
use Rattle.roster_types.specs.declared.metadata.Entry.{Entry}
use Rattle.roster_types.specs.declared.status.Status.TheVariants.{ToBeDeleted}
use Rattle.roster_values.specs.declared.kind.Kind.{Kind}
use Rattle.roster_values.specs.declared.value.Value.{Value}
use Rattle.roster_values.specs.declared.value.Value.TheVariants.{Number, Texts, UserIds, Ref, Refs}
use Rattle.roster_values.specs.CellText.{cell_text}
use Rattle.roster_values.specs.Kinds.{single_of}
use Rattle.roster_values.specs.Table.{Form, Info, RefForm, RefsForm, table}
use Rattle.roster_values.specs.UserIds.{UserIdParts}
use Rattle.roster_types.specs.Hrefs.{href}
use Rattle.roster_types.specs.Records.{Record, all_values}

-- bytes that stand in a JSON string as a backslash and one more character: the quote, the backslash, backspace, tab,
-- line feed, form feed and carriage return
abbrev pub has_short_escape : ℕ → Bool
has_short_escape b = (b == 34) || (b == 92) || (b == 8) || (b == 9) || (b == 10) || (b == 12) || (b == 13)

-- what a byte takes in a JSON string: any other control character stands as six bytes
abbrev pub escaped_length : ℕ → ℕ
escaped_length b = if has_short_escape b then 2 else if nat_lt b 32 then 6 else 1

-- a JSON string with its two quotes
unfoldable pub text_length : List ℕ → ℕ
text_length t = 2 + sum_by escaped_length t

-- an array or an object with parts of these lengths: two brackets, and a comma between two parts
abbrev pub enclosed_length : List ℕ → ℕ
enclosed_length ns = 2 + (sum_by (λ n. n + 1) ns - 1)

-- a member with its name and its colon
abbrev pub member_length : List ℕ → ℕ → ℕ
member_length name value = text_length name + 1 + value

-- a reference to a row, as an object
abbrev pub reference_length : Kind → List ℕ → ℕ
reference_length kind id = enclosed_length (
    member_length (codes "href") (text_length (href kind id))
    ∷ member_length (codes "sourcedId") (text_length id)
    ∷ member_length (codes "type") (text_length (single_of kind))
    ∷ [])

-- a user id, as an object
abbrev pub user_id_length : UserIdParts → ℕ
user_id_length u = enclosed_length (
    member_length (codes "identifier") (text_length u.identifier)
    ∷ member_length (codes "type") (text_length u.form)
    ∷ [])

-- a value: numbers stand as they are, lists in brackets, references and user ids as objects, and all else as a string
-- of its cell's text
unfoldable pub value_length : Form → Value → ℕ
value_length form (Number n) = length (cell_text (Number n))
value_length form (Texts ts) = enclosed_length (map text_length ts)
value_length form (UserIds us) = enclosed_length (map user_id_length us)
value_length (RefForm kind) (Ref t) = reference_length kind t
value_length (RefsForm kind) (Refs ts) = enclosed_length (map (reference_length kind) ts)
value_length form v = text_length (cell_text v)

-- the member of a field with one byte more, for a comma or a bracket; nothing where the field is absent
unfoldable pub field_length : Info → Option Value → ℕ
field_length info None = 0
field_length info (Some v) = member_length info.name (value_length info.form v) + 1

-- those of all fields
unfoldable pub fields_length : List Info → List (Option Value) → ℕ
fields_length [] vs = 0
fields_length (i ∷ is) [] = 0
fields_length (i ∷ is) (v ∷ vs) = field_length i v + fields_length is vs

-- the member of an entry of metadata
abbrev pub entry_length : Entry → ℕ
entry_length e = member_length e.key (text_length e.text)

-- the member of all metadata with one byte more; where there is no entry, there is no member
unfoldable pub metadata_length : List Entry → ℕ
metadata_length [] = 0
metadata_length (e ∷ es) = member_length (codes "metadata") (enclosed_length (map entry_length (e ∷ es))) + 1

-- the object: two brackets, and a comma less than there are members
unfoldable pub object_length : Record → ℕ
object_length r = 2 + (fields_length (table r.kind) (all_values r) + metadata_length r.metadata - 1)

-- a row is as long as its object is with the status `tobedeleted`, so that no row becomes too long when it is marked so
abbrev pub row_length : Record → ℕ
row_length r = object_length (record r { status = ToBeDeleted })
