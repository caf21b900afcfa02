-- What becomes of a version where the rows that a copy holds are made those of a feed.
use Rattle.std.specs.Prelude.{◌≡◌, ℕ, ℤ, ◌&&◌, option_map, filter, if◌then◌else◌, Bool, List, [], ◌∷◌, Option, Some}
use Rattle.std.specs.Prelude.{None}
use Rattle.std.specs.Option.{option_or}
use Rattle.roster_types.specs.Keys.{Key, look_up, row_key}
use Rattle.roster_types.specs.Records.{Record}
use Rattle.roster_values.specs.Kinds.{all_kinds}
use Rattle.version_changes.specs.declared.sets.publish_fault.PublishFault.{PublishFault}
use Rattle.version_changes.specs.declared.sets.publish_fault.PublishFault.TheVariants.{OwnedByOther}
use Rattle.version_changes.specs.sets.Applying.{Makes, Outcome, is_active, is_own, marked, owned_by, too_many}
use Rattle.version_core.specs.Changes.{AreChanges, change_key, rows_of}
use Rattle.version_core.specs.declared.change.BaseVersion.{BaseVersion}
use Rattle.version_core.specs.declared.row_change.RowChange.{RowChange}

-- an active row of the feed
abbrev pub is_current : List ℕ → RowChange → Bool
is_current feed stored = is_own feed stored.owner && is_active stored.row.status

-- what becomes of a row that isn't held
abbrev pub unheld : List ℕ → ℤ → RowChange → RowChange
unheld feed at stored = if is_current feed stored then marked at stored else stored

-- what stands under a kind and id anew: the row that is held there, with its own date, as the feed's; else what stood
-- there
abbrev pub cascaded : List ℕ → ℤ → Option Record → Option RowChange → Option RowChange
cascaded feed at (Some held) stored = Some (owned_by feed held)
cascaded feed at None stored = option_map (unheld feed at) stored

-- the rows that held ones lead to: one list, since what becomes of each kind and id is one thing
pub record AreCascaded (feed : List ℕ) (at : ℤ) (held : List Record) (rows new : List RowChange) : Type 0 where
  pub order : AreChanges new
  pub entries : (k : Key) → look_up change_key k new ≡ cascaded feed at (look_up row_key k held) (look_up change_key k rows)

-- the refusal of a held row whose id stands with another owner
abbrev pub fault_of_owner : List ℕ → Record → Option RowChange → Option PublishFault
fault_of_owner feed held None = None
fault_of_owner feed held (Some stored) = if is_own feed stored.owner then None else Some (OwnedByOther held.kind held.id stored.owner)

-- the refusal of the first of these
abbrev pub owned_by_other : List ℕ → List RowChange → List Record → Option PublishFault
owned_by_other feed rows [] = None
owned_by_other feed rows (held ∷ later) = option_or (fault_of_owner feed held (look_up change_key (row_key held) rows)) (owned_by_other feed rows later)

-- the first refusal of held rows that lead from rows to new ones; broken references are none, since a copy may name
-- rows that it lacks
abbrev pub refusal_of : List ℕ → List Record → List RowChange → List RowChange → Option PublishFault
refusal_of feed held rows new = option_or (owned_by_other feed rows held) (too_many (rows_of new) all_kinds)

-- cascading held rows into a version, as those of a feed, at a moment
abbrev pub Cascades : BaseVersion → List ℕ → List Record → ℤ → Outcome → Type 0
Cascades version feed held at outcome = (new : List RowChange) × AreCascaded feed at held version.rows new × Makes version at (refusal_of feed held version.rows new) new outcome

-- ---- what is served onward

-- the active rows of a feed
abbrev pub current_rows : List ℕ → List RowChange → List Record
current_rows feed rows = rows_of (filter (is_current feed) rows)

-- the active ones of held rows
abbrev pub active_rows : List Record → List Record
active_rows held = filter (λ row. is_active row.status) held
