-- A whole set: what the files of a folder mean together, or the first fault.
use Rattle.std.specs.Prelude.{◌≡◌, ◌==◌, ℕ, Bool, true, false, List, [], ◌∷◌, Option, None, Some, Result, Ok, Err}
use Rattle.std.specs.Prelude.{is_some, length, map, nat_lt, not, if◌then◌else◌}
use Rattle.std.specs.List.{All, list_any}
use Rattle.std.specs.Str.{is_utf8}
use Rattle.csv.specs.Reading.{default_config, records, strip_bom}
use Rattle.outside_ports.specs.Files.{Stored, file_at}
use Rattle.roster_base.specs.Reading.{◌>>=◌}
use Rattle.roster_types.specs.declared.set.SetPart.{SetPart}
use Rattle.roster_types.specs.Sets.{SetRecord}
use Rattle.roster_values.specs.declared.kind.Kind.{Kind}
use Rattle.roster_values.specs.Kinds.{all_kinds, place_of_kind}
use Rattle.csv_sets.specs.declared.fault.ManifestFault.{ManifestFault}
use Rattle.csv_sets.specs.declared.fault.SetFault.{SetFault}
use Rattle.csv_sets.specs.declared.fault.SetFault.TheVariants as fault
use Rattle.csv_sets.specs.declared.fault.SetFile.{SetFile}
use Rattle.csv_sets.specs.declared.fault.SetFile.TheVariants.{Manifest, RowsOf}
use Rattle.csv_sets.specs.declared.manifest.ListedFile.{ListedFile}
use Rattle.csv_sets.specs.Files.{file_of, largest}
use Rattle.csv_sets.specs.Manifests.{manifest_of}
use Rattle.csv_sets.specs.Names.{name_of}

-- the bytes of a file in a folder of the set
abbrev pub bytes_at : List Stored → List ℕ → SetFile → Option (List ℕ)
bytes_at files dir file = file_at files dir (name_of file)

-- the bytes of a file that ought to be there and isn't too large
unfoldable pub bytes_of : SetFile → Option (List ℕ) → Result (List ℕ) SetFault
bytes_of file None = Err (fault.MissingFile file)
bytes_of file (Some bytes) = if nat_lt largest (length bytes) then Err (fault.TooLarge file) else Ok bytes

-- a fault of the manifest as one of the set
abbrev pub in_manifest : {A : Type 0} → Result A ManifestFault → Result A SetFault
in_manifest (Ok x) = Ok x
in_manifest (Err f) = Err (fault.Manifest f)

-- the files that a manifest's bytes list
unfoldable pub listed_in : List ℕ → Result (List ListedFile) SetFault
listed_in bytes =
    if not (is_utf8 bytes) then Err (fault.NotUtf8 Manifest)
    else in_manifest (manifest_of (records default_config (strip_bom bytes)))

-- the files that the manifest of a folder lists
unfoldable pub manifest_at : List ℕ → List Stored → Result (List ListedFile) SetFault
manifest_at dir files = do
  bytes ← bytes_of Manifest (bytes_at files dir Manifest)
  listed_in bytes

-- the manifest lists a file of the kind
abbrev pub is_listed : Kind → List ListedFile → Bool
is_listed kind listed = list_any (λ f. place_of_kind f.kind == place_of_kind kind) listed

-- a kind's file ought to be there exactly where the manifest lists it
abbrev pub stands : Kind → Bool → Bool → Result Bool SetFault
stands kind true true = Ok true
stands kind true false = Err (fault.MissingFile (RowsOf kind))
stands kind false true = Err (fault.UnexpectedFile (RowsOf kind))
stands kind false false = Ok true

-- a kind's file in a folder ought to be there exactly where the manifest lists it
abbrev pub stands_at : List ℕ → List ListedFile → Kind → List Stored → Result Bool SetFault
stands_at dir listed kind files = stands kind (is_listed kind listed) (is_some (bytes_at files dir (RowsOf kind)))

-- the first of these kinds whose file is there or missing against the manifest
unfoldable pub all_stand : List ℕ → List ListedFile → List Kind → List Stored → Result Bool SetFault
all_stand dir listed [] files = Ok true
all_stand dir listed (kind ∷ kinds) files = do
  here ← stands_at dir listed kind files
  all_stand dir listed kinds files

-- the part of a listed file
unfoldable pub part_at : List ℕ → ListedFile → List Stored → Result SetPart SetFault
part_at dir listed files = do
  bytes ← bytes_of (RowsOf listed.kind) (bytes_at files dir (RowsOf listed.kind))
  rows ← file_of listed.kind listed.mode bytes
  Ok (record { kind = listed.kind; mode = listed.mode; rows = rows })

-- the parts of the listed files, in turn
unfoldable pub parts_at : List ℕ → List ListedFile → List Stored → Result (List SetPart) SetFault
parts_at dir [] files = Ok []
parts_at dir (l ∷ listed) files = do
  part ← part_at dir l files
  parts ← parts_at dir listed files
  Ok (part ∷ parts)

-- the set of a feed in a folder: the manifest, then whether each of these kinds' files is there, then the files
unfoldable pub set_among : List Kind → List ℕ → List ℕ → List Stored → Result SetRecord SetFault
set_among kinds dir feed files = do
  listed ← manifest_at dir files
  whole ← all_stand dir listed kinds files
  parts ← parts_at dir listed files
  Ok (record { feed = feed; parts = parts })

-- the set of a feed in a folder, where each kind's file is looked for
unfoldable pub set_of : List ℕ → List ℕ → List Stored → Result SetRecord SetFault
set_of dir feed files = set_among all_kinds dir feed files

-- a part as the manifest lists its file
abbrev pub listed_as : SetPart → ListedFile
listed_as p = record { kind = p.kind; mode = p.mode }

-- some bytes spell the rows of a part
abbrev pub IsSpelled : SetPart → Type 0
IsSpelled p = (bytes : List ℕ) × (file_of p.kind p.mode bytes ≡ Ok p.rows)

-- the bytes of some manifest list these files
abbrev pub AreListed : List ListedFile → Type 0
AreListed listed = (bytes : List ℕ) × (listed_in bytes ≡ Ok listed)

-- some manifest lists the files of these parts, and some files spell their rows
pub record AreSpelled (parts : List SetPart) : Type 0 where
  pub listed : AreListed (map listed_as parts)
  pub rows : All IsSpelled parts
