-- What an export of changes tells against an earlier set.
use Rattle.std.specs.Prelude.{◌≡◌, ◌==◌, ◌&&◌, ℕ, ℤ, Bool, false, List, [], ◌∷◌, Option, Some, None, length, map}
use Rattle.std.specs.Prelude.{if◌then◌else◌}
use Rattle.csv_sets.specs.Written.{written_text}
use Rattle.keeper_memory.specs.copy.Copies.{Copy, held_list}
use Rattle.roster_types.specs.Keys.{Ascends, Key, look_up, row_key}
use Rattle.roster_types.specs.Records.{Record}
use Rattle.roster_types.specs.declared.set.SetPart.{SetPart}
use Rattle.roster_types.specs.declared.set_row.SetRow.{SetRow}
use Rattle.roster_types.specs.declared.status.Status.TheVariants.{ToBeDeleted}
use Rattle.roster_values.specs.Kinds.{place_of_kind}
use Rattle.roster_values.specs.declared.kind.Kind.{Kind}
use Rattle.row_deltas.specs.Sameness.{same_row}
use Rattle.version_changes.specs.sets.Applying.{is_active, set_key}
use Rattle.version_core.specs.Order.{overlaid}
use Rattle.bulk_export.specs.Exports.{AreHeld, IsFile}

-- the rows of a kind in the parts of a set
abbrev pub rows_in : Kind → List SetPart → List SetRow
rows_in kind [] = []
rows_in kind (part ∷ parts) = if place_of_kind part.kind == place_of_kind kind then part.rows else rows_in kind parts

-- an earlier row tells a held one where it is the same, its date among all
abbrev pub is_as_before : Option SetRow → Record → Bool
is_as_before None held = false
is_as_before (Some earlier) held = earlier.dated && same_row earlier.row held

abbrev pub marked : ℤ → Record → Record
marked at row = record row { status = ToBeDeleted; modified = at }

-- what is told under an id, by what the earlier set has there and what is held
abbrev pub told : ℤ → Option SetRow → Option Record → Option Record
told at earlier (Some held) = if is_as_before earlier held then None else Some held
told at (Some earlier) None = if is_active earlier.row.status then Some (marked at earlier.row) else None
told at None None = None

-- In order of id, each held row that the earlier set lacks or has otherwise, and each active row of the earlier set
-- that isn't held.
pub record AreChanges (at : ℤ) (earlier : List SetRow) (held changes : List Record) : Type 0 where
  pub order : Ascends row_key changes
  pub entries : (k : Key) → look_up row_key k changes ≡ told at (look_up set_key k earlier) (look_up row_key k held)

-- the text is that of the changes of a kind that each of these copies holds
pub record IsChangesExport (at : ℤ) (earlier : List SetRow) (kind : Kind) (copies : Copy → Type 0)
    (text : List ℕ) : Type 0 where
  pub held : List Record
  pub are : AreHeld kind copies held
  pub rows : List Record
  pub changes : AreChanges at earlier held rows
  pub file : IsFile kind rows text

-- the text of the changes has so many bytes
pub record HasTooMany (at : ℤ) (earlier : List SetRow) (kind : Kind) (copy : Copy) (bytes : ℕ) : Type 0 where
  pub rows : List Record
  pub changes : AreChanges at earlier (held_list copy kind) rows
  pub size : bytes ≡ length (written_text kind rows)

-- under an id stands what is held, and else at most a row that the earlier set had, marked as deleted
abbrev pub LeadsTo : Option SetRow → Option Record → Option Record → Type 0
LeadsTo earlier (Some held) after = after ≡ Some held
LeadsTo earlier None None = Unit {0}
LeadsTo None None (Some row) = ⊥
LeadsTo (Some earlier) None (Some row) = (row.status ≡ ToBeDeleted) × (row.id ≡ earlier.row.id)

-- the changes put over the rows of the earlier set
abbrev pub put_over : List SetRow → List Record → List Record
put_over earlier changes = overlaid row_key (map (λ listed. listed.row) earlier) changes
