-- What labels and bodies are made of.
use Rattle.std.specs.Prelude.{◌≡◌, ◌<◌, ◌^◌, ℕ, ℤ, ⊤, Bool, List, [], ◌∷◌, ◌++◌, Option, None, Some, Ok, length}
use Rattle.std.specs.Prelude.{if◌then◌else◌}
use Rattle.std.specs.List.{AllByRecursion}
use Rattle.std.specs.Int.{w64, cast_unsigned, to_be_bytes}
use Rattle.grant_scopes.specs.declared.grant.Grant.{Grant}
use Rattle.grant_scopes.specs.declared.schools.Schools.{Schools}
use Rattle.grant_scopes.specs.declared.schools.Schools.TheVariants as schools
use Rattle.roster_types.specs.Keys.{Key}
use Rattle.roster_types.specs.declared.owner.Owner.{Owner}
use Rattle.roster_types.specs.declared.owner.Owner.TheVariants.{Caller, Feed}
use Rattle.roster_values.specs.Kinds.{place_of_kind}
use Rattle.row_json.specs.Json.{single_text}
use Rattle.row_json.specs.Reading.{row_of}
use Rattle.version_core.specs.declared.change.Change.{Change}
use Rattle.version_core.specs.declared.grant_row.GrantRow.{GrantRow}
use Rattle.version_core.specs.declared.mark.MarkRow.{MarkRow}
use Rattle.version_core.specs.declared.row_change.RowChange.{RowChange}

-- a number in 8 bytes, the greatest of them first
abbrev pub number : ℕ → List ℕ
number n = to_be_bytes w64 n

-- how many bytes a number has
abbrev pub number_size : ℕ
number_size = 8

-- a moment in two's complement
abbrev pub moment : ℤ → List ℕ
moment ms = number (cast_unsigned w64 ms)

abbrev pub flag : Bool → ℕ
flag b = if b then 1 else 0

-- a text after its length
abbrev pub sized : List ℕ → List ℕ
sized text = number (length text) ++ text

abbrev pub all_sized : List (List ℕ) → List ℕ
all_sized [] = []
all_sized (text ∷ texts) = sized text ++ all_sized texts

-- a feed under 1 and a caller under 0
abbrev pub owner_bytes : Owner → List ℕ
owner_bytes (Feed name) = 1 ∷ sized name
owner_bytes (Caller name) = 0 ∷ sized name

abbrev pub owner_name : Owner → List ℕ
owner_name (Feed name) = name
owner_name (Caller name) = name

-- all schools under 0, and those that are listed under 1
abbrev pub schools_bytes : Schools → List ℕ
schools_bytes schools.All = 0 ∷ []
schools_bytes (schools.Listed ids) = 1 ∷ (number (length ids) ++ all_sized ids)

-- the place of a kind, then an id
abbrev pub key_label : Key → List ℕ
key_label key = key.0 ∷ key.1

-- a caller ends with a 0
abbrev pub caller_label : List ℕ → List ℕ
caller_label caller = caller ++ 0 ∷ []

abbrev pub mark_label : List ℕ × ℕ → List ℕ
mark_label key = key.0 ++ 0 ∷ number key.1

abbrev pub row_body : RowChange → List ℕ
row_body change = owner_bytes change.owner ++ sized (single_text None change.row)

abbrev pub grant_body : Grant → List ℕ
grant_body grant = sized grant.token ++ (grant.scopes ∷ (schools_bytes grant.schools ++ number grant.since))

abbrev pub has_grants : Option (List GrantRow) → ℕ
has_grants None = 0
has_grants (Some grants) = 1

-- the moment of a change, then 1 where it has grants, and else 0
abbrev pub change_body : Change → List ℕ
change_body change = moment change.moment ++ has_grants change.grants ∷ []

abbrev pub mark_body : MarkRow → List ℕ
mark_body mark =
    flag mark.write.delete ∷ place_of_kind mark.write.kind
    ∷ (sized mark.write.id ++ (sized mark.write.body ++ (mark.kept.outcome ∷ number mark.kept.version)))

abbrev pub HasNoZero : List ℕ → Type 0
HasNoZero text = AllByRecursion (λ b. 0 < b) text

-- a byte with which no label of a row or a mark begins
abbrev pub end_byte : ℕ
end_byte = 255

-- a label behind those of all rows and marks
abbrev pub labels_end : List ℕ
labels_end = end_byte ∷ []

-- each byte of the text is below that one
abbrev pub StaysBelowEnd : List ℕ → Type 0
StaysBelowEnd text = AllByRecursion (λ b. b < end_byte) text

-- the length stands in its 8 bytes
abbrev pub IsSized : List ℕ → Type 0
IsSized text = length text < 2 ^ 64

abbrev pub AreSized : Schools → Type 0
AreSized schools.All = ⊤
AreSized (schools.Listed ids) = (length ids < 2 ^ 64) × AllByRecursion IsSized ids

-- the row is read back from its body
pub record IsReadBack (change : RowChange) : Type 0 where
  pub row : row_of change.row.kind (single_text None change.row) ≡ Ok change.row
  pub owner : IsSized (owner_name change.owner)
  pub text : IsSized (single_text None change.row)
