-- A folder with an export of each kind.
use Rattle.std.specs.Prelude.{◌≡◌, ℕ, List, Some, Ok, map}
use Rattle.csv_sets.specs.Files.{file_of}
use Rattle.csv_sets.specs.Sets.{bytes_at}
use Rattle.csv_sets.specs.Written.{dated}
use Rattle.csv_sets.specs.declared.fault.SetFile.TheVariants.{Manifest, RowsOf}
use Rattle.csv_sets.specs.declared.manifest.ListedFile.{ListedFile}
use Rattle.outside_ports.specs.Files.{Stored}
use Rattle.roster_types.specs.Records.{Record}
use Rattle.roster_types.specs.declared.set.SetPart.{SetPart}
use Rattle.roster_values.specs.Kinds.{all_kinds}
use Rattle.roster_values.specs.declared.kind.Kind.{Kind}
use Rattle.roster_values.specs.declared.mode.Mode.{Mode}
use Rattle.bulk_export.specs.Exports.{manifest_text}

-- the file of a kind is there, and is read as these rows
pub record HasFile (mode : Mode) (dir : List ℕ) (files : List Stored) (kind : Kind) (rows : List Record) : Type 0 where
  pub text : List ℕ
  pub there : bytes_at files dir (RowsOf kind) ≡ Some text
  pub back : file_of kind mode text ≡ Ok (map dated rows)

-- the manifest, and a file of each kind
pub record IsExportFolder (mode : Mode) (dir : List ℕ) (files : List Stored) (rows : Kind → List Record) : Type 0 where
  pub manifest : bytes_at files dir Manifest ≡ Some (manifest_text mode)
  pub kinds : (kind : Kind) → HasFile mode dir files kind (rows kind)

-- how a manifest lists the file of a kind: in this mode
abbrev pub listed : Mode → Kind → ListedFile
listed mode kind = record { kind = kind; mode = mode }

-- the part of a set that the file of a kind is read as: its rows, all dated
abbrev pub part_of : Mode → (Kind → List Record) → Kind → SetPart
part_of mode rows kind = record { kind = kind; mode = mode; rows = map dated (rows kind) }

-- a part of each kind in their order, with its rows, all dated
abbrev pub parts_of : Mode → (Kind → List Record) → List SetPart
parts_of mode rows = map (part_of mode rows) all_kinds
