-- What is exported of a copy, and why it isn't.
use Rattle.std.specs.Prelude.{◌≡◌, ◌<◌, ◌++◌, ℕ, List, None, Ok, codes, length, map}
use Rattle.std.specs.List.{flat_map}
use Rattle.keeper_memory.specs.copy.Copies.{Copy, held_list}
use Rattle.keeper_memory.specs.copy.Lists.{IsList}
use Rattle.csv_sets.specs.Files.{file_of, largest}
use Rattle.csv_sets.specs.Written.{dated, written_text}
use Rattle.roster_base.specs.declared.keeper.KeeperError.{KeeperError}
use Rattle.roster_base.specs.declared.keeper.KeeperError.TheVariants as keeper
use Rattle.roster_types.specs.Records.{Record}
use Rattle.roster_values.specs.Kinds.{all_kinds, plural_of}
use Rattle.roster_values.specs.declared.kind.Kind.{Kind}
use Rattle.roster_values.specs.declared.mode.Mode.{Mode}
use Rattle.roster_values.specs.declared.mode.Mode.TheVariants.{Bulk, Delta}
use Rattle.bulk_export.specs.declared.error.ExportError.{ExportError}
use Rattle.bulk_export.specs.declared.error.ExportError.TheVariants as error

-- the error of an export whose keeper failed
abbrev pub export_error : KeeperError → ExportError
export_error keeper.Failed = error.KeeperFault
export_error keeper.NoMemory = error.NoMemory

-- the copy holds something, and these are the rows that it holds of the kind
pub record IsHeld (kind : Kind) (copy : Copy) (rows : List Record) : Type 0 where
  pub some : copy.held ≡ None → ⊥
  pub list : rows ≡ held_list copy kind

-- the text of a file that is read in each mode as these rows, all dated
pub record IsFile (kind : Kind) (rows : List Record) (text : List ℕ) : Type 0 where
  pub is_text : text ≡ written_text kind rows
  pub back : (mode : Mode) → file_of kind mode text ≡ Ok (map dated rows)

-- the rows, which stand in order of id, are those of the kind that each of these copies holds
pub record AreHeld (kind : Kind) (copies : Copy → Type 0) (rows : List Record) : Type 0 where
  pub list : IsList kind rows
  pub held : (copy : Copy) → copies copy → IsHeld kind copy rows

-- the text is that of the rows of a kind that each of these copies holds
pub record IsExport (kind : Kind) (copies : Copy → Type 0) (text : List ℕ) : Type 0 where
  pub rows : List Record
  pub are : AreHeld kind copies rows
  pub file : IsFile kind rows text

-- the cause of an error: that nothing is held, that the keeper's count of faults rose (`broke`), or that the text of
-- what a copy holds has so many bytes (`HasBytes`) and is too large; of want of memory nothing is said
abbrev pub CauseOf : (Copy → Type 0) → Type 0 → (Copy → ℕ → Type 0) → ExportError → Type 0
CauseOf copies broke HasBytes error.NothingHeld = (copy : Copy) → copies copy → copy.held ≡ None
CauseOf copies broke HasBytes error.KeeperFault = broke
CauseOf copies broke HasBytes (error.TooLarge bytes) =
    (largest < bytes) × ((copy : Copy) → copies copy → HasBytes copy bytes)
CauseOf copies broke HasBytes error.NoMemory = Unit {0}

-- the cause of an error where rows are written alone: that their text is too large, or that memory ran out
abbrev pub TextCauseOf : Kind → List Record → ExportError → Type 0
TextCauseOf kind rows error.NothingHeld = ⊥
TextCauseOf kind rows error.KeeperFault = ⊥
TextCauseOf kind rows (error.TooLarge bytes) = (largest < bytes) × (bytes ≡ length (written_text kind rows))
TextCauseOf kind rows error.NoMemory = Unit {0}

-- ---- the manifest

-- the word that a manifest has for a mode
abbrev pub mode_word : Mode → List ℕ
mode_word Bulk = codes "bulk"
mode_word Delta = codes "delta"

-- the line that says in which mode the file of a kind stands in the set
abbrev pub file_line : Mode → Kind → List ℕ
file_line mode kind = codes "file." ++ plural_of kind ++ codes "," ++ mode_word mode ++ codes "\n"

-- the header, the versions, a line for each kind in their order, and whose set it is
unfoldable pub manifest_text : Mode → List ℕ
manifest_text mode =
    codes "propertyName,value\nmanifest.version,1.0\noneroster.version,1.1\n"
    ++ (flat_map (file_line mode) all_kinds ++ codes "source.systemName,hub\nsource.systemCode,hub\n")
