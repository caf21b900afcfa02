-- A manifest: which kinds a set has files of, and how each is to be read.
use Rattle.std.specs.Prelude.{◌+◌, ◌==◌, ◌&&◌, ℕ, Bool, true, List, [], ◌∷◌, ◌++◌, Option, None, Some, Result, Ok, Err}
use Rattle.std.specs.Prelude.{bytes_eq, codes, find, length, map, not, option_and_then, if◌then◌else◌}
use Rattle.std.specs.List.{list_any}
use Rattle.std.specs.List.Sorted.{IsStrictlySortedBy}
use Rattle.std.specs.Ordering.{nat_cmp}
use Rattle.roster_base.specs.Reading.{◌>>=◌}
use Rattle.roster_values.specs.declared.kind.Kind.{Kind}
use Rattle.roster_values.specs.declared.mode.Mode.{Mode}
use Rattle.roster_values.specs.declared.mode.Mode.TheVariants.{Bulk, Delta}
use Rattle.roster_values.specs.Kinds.{all_kinds, place_of_kind}
use Rattle.csv_sets.specs.declared.manifest.ListedFile.{ListedFile}
use Rattle.csv_sets.specs.declared.manifest.Said.{Said}
use Rattle.csv_sets.specs.declared.fault.ManifestFault.{ManifestFault}
use Rattle.csv_sets.specs.declared.fault.ManifestFault.TheVariants.{Header, Missing, Repeated, UnknownMode, Version}
use Rattle.csv_sets.specs.declared.fault.ManifestFault.TheVariants.{Width}
use Rattle.csv_sets.specs.declared.property.Property.{Property}
use Rattle.csv_sets.specs.declared.property.Property.TheVariants.{FileOf, ManifestVersion, OneRosterVersion}
use Rattle.csv_sets.specs.Cells.{text_at}
use Rattle.csv_sets.specs.Properties.{property_name, property_of}

-- the header `propertyName,value`
abbrev pub is_header : List (List ℕ) → Bool
is_header cells =
    (length cells == 2)
    && bytes_eq (text_at cells 0) (codes "propertyName")
    && bytes_eq (text_at cells 1) (codes "value")

-- what a file's property says: a file that isn't absent is to be read in a mode
unfoldable pub mode_of_word : Property → List ℕ → Result (Option Mode) ManifestFault
mode_of_word property word =
    if bytes_eq word (codes "bulk") then Ok (Some Bulk)
    else if bytes_eq word (codes "delta") then Ok (Some Delta)
    else if bytes_eq word (codes "absent") then Ok None
    else Err (UnknownMode property)

-- a version says nothing but that it is the one that is read
abbrev pub version_checked : Property → List ℕ → List ℕ → Result (Option Mode) ManifestFault
version_checked property version value = if bytes_eq value version then Ok None else Err (Version property)

-- what a property says by its value
unfoldable pub mode_said : Property → List ℕ → Result (Option Mode) ManifestFault
mode_said ManifestVersion value = version_checked ManifestVersion (codes "1.0") value
mode_said OneRosterVersion value = version_checked OneRosterVersion (codes "1.1") value
mode_said property value = mode_of_word property value

-- what is said is said of this property
abbrev pub is_of : Property → Said → Bool
is_of property s = bytes_eq (property_name s.property) (property_name property)

-- something is said of this property
abbrev pub is_said : Property → List Said → Bool
is_said property said = list_any (is_of property) said

-- what is said behind others, with the value of one more property, if it is one of these: each may stand once
unfoldable pub said_with : List Said → Option Property → List ℕ → Result (List Said) ManifestFault
said_with front None value = Ok front
said_with front (Some property) value = if is_said property front then Err (Repeated property) else do
  mode ← mode_said property value
  Ok (front ++ record { property = property; mode = mode } ∷ [])

-- the same with one more record
unfoldable pub said_by : List Said → ℕ → List (List ℕ) → Result (List Said) ManifestFault
said_by front number cells =
    if not (length cells == 2) then Err (Width number)
    else said_with front (property_of (text_at cells 0)) (text_at cells 1)

-- what the records say from a number on, behind what those before said
unfoldable pub said_after : List Said → ℕ → List (List (List ℕ)) → Result (List Said) ManifestFault
said_after front number [] = Ok front
said_after front number (cells ∷ rest) = do
  said ← said_by front number cells
  said_after said (number + 1) rest

-- both versions are said
unfoldable pub versions_checked : List Said → Result Bool ManifestFault
versions_checked said =
    if not (is_said ManifestVersion said) then Err (Missing ManifestVersion)
    else if not (is_said OneRosterVersion said) then Err (Missing OneRosterVersion)
    else Ok true

-- how a kind's file is to be read, if there is to be one
unfoldable pub mode_of : List Said → Kind → Option Mode
mode_of said kind = option_and_then (λ s. s.mode) (find (is_of (FileOf kind)) said)

-- the file of a kind, if there is to be one
abbrev pub listed : Kind → Option Mode → List ListedFile
listed kind None = []
listed kind (Some mode) = record { kind = kind; mode = mode } ∷ []

-- the files of these kinds that there are to be
unfoldable pub files_said : List Said → List Kind → List ListedFile
files_said said [] = []
files_said said (kind ∷ kinds) = listed kind (mode_of said kind) ++ files_said said kinds

-- each kind has one file at most, and the files stand in the order of kinds
abbrev pub RisingFiles : List ListedFile → Type 0
RisingFiles files = IsStrictlySortedBy nat_cmp (map (λ f. place_of_kind f.kind) files)

-- what the records below the header say
unfoldable pub manifest_below : List (List (List ℕ)) → Result (List ListedFile) ManifestFault
manifest_below records = do
  said ← said_after [] 2 records
  whole ← versions_checked said
  Ok (files_said said all_kinds)

-- the files that the records of a manifest list, in the kinds' order, or its first fault
unfoldable pub manifest_of : List (List (List ℕ)) → Result (List ListedFile) ManifestFault
manifest_of [] = Err Header
manifest_of (cells ∷ rest) = if is_header cells then manifest_below rest else Err Header
