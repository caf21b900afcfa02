-- What a set makes of a version.
use Rattle.std.specs.Prelude.{◌≡◌, ⊤, ℕ, ℤ, ◌+◌, ◌<◌, ◌==◌, ◌&&◌, ◌⊎◌, nat_lt, bytes_eq, option_map, if◌then◌else◌}
use Rattle.std.specs.Prelude.{Bool, true, false, List, [], ◌∷◌, Option, Some, None, Result, Ok, Err}
use Rattle.std.specs.List.{flat_map, list_any}
use Rattle.std.specs.Option.{option_or}
use Rattle.reference_rules.specs.declared.ref_fault.RefFault.{RefFault}
use Rattle.reference_rules.specs.Faults.{faults_of}
use Rattle.roster_base.specs.declared.refusal.Refusal.{Refusal}
use Rattle.roster_base.specs.declared.refusal.Refusal.TheVariants.{Fault, NoMemory}
use Rattle.roster_types.specs.Keys.{Key, count_of, look_up, row_key}
use Rattle.roster_types.specs.Records.{Record, SameButDate}
use Rattle.roster_types.specs.Sets.{SetRecord}
use Rattle.roster_types.specs.declared.owner.Owner.{Owner}
use Rattle.roster_types.specs.declared.owner.Owner.TheVariants.{Caller, Feed}
use Rattle.roster_types.specs.declared.set.SetPart.{SetPart}
use Rattle.roster_types.specs.declared.set_row.SetRow.{SetRow}
use Rattle.roster_types.specs.declared.status.Status.{Status}
use Rattle.roster_types.specs.declared.status.Status.TheVariants.{Active, ToBeDeleted}
use Rattle.roster_values.specs.declared.kind.Kind.{Kind}
use Rattle.roster_values.specs.declared.mode.Mode.{Mode}
use Rattle.roster_values.specs.declared.mode.Mode.TheVariants.{Bulk, Delta}
use Rattle.roster_values.specs.Kinds.{all_kinds, place_of_kind}
use Rattle.version_changes.specs.declared.sets.publish_fault.PublishFault.{PublishFault}
use Rattle.version_changes.specs.declared.sets.publish_fault.PublishFault.TheVariants.{OwnedByOther, TooManyRows}
use Rattle.version_changes.specs.declared.sets.publish_fault.PublishFault.TheVariants.{Unsound, LastVersion}
use Rattle.version_core.specs.Changes.{AreChanges, change_key, rows_of}
use Rattle.version_core.specs.Version.{IsVersion, after, last_version, row_limit}
use Rattle.version_core.specs.declared.change.BaseVersion.{BaseVersion}
use Rattle.version_core.specs.declared.change.Change.{Change}
use Rattle.version_core.specs.declared.row_change.RowChange.{RowChange}

-- the key of a listed row
abbrev pub set_key : SetRow → Key
set_key listed = row_key listed.row

-- the rows of a set, in its order
abbrev pub rows_in : SetRecord → List SetRow
rows_in set = flat_map (λ part. part.rows) set.parts

-- a row as it is stored for a feed
abbrev pub owned_by : List ℕ → Record → RowChange
owned_by feed row = record { row = row; owner = Feed feed }

-- the row with a moment as its date
abbrev pub dated : ℤ → Record → Record
dated at row = record row { modified = at }

-- an undated row leaves what equals it in all but the date, and else is dated by the publication
abbrev pub Undated : List ℕ → ℤ → Record → Option RowChange → RowChange → Type 0
Undated feed at row None new = new ≡ owned_by feed (dated at row)
Undated feed at row (Some stored) new =
    (SameButDate row stored.row × (new ≡ stored)) ⊎ ((SameButDate row stored.row → ⊥) × (new ≡ owned_by feed (dated at row)))

-- a dated row takes the place of what stands
abbrev pub Listed : List ℕ → ℤ → Bool → Record → Option RowChange → RowChange → Type 0
Listed feed at true row stored new = new ≡ owned_by feed row
Listed feed at false row stored new = Undated feed at row stored new

-- the owner is this feed
abbrev pub is_own : List ℕ → Owner → Bool
is_own feed (Feed name) = bytes_eq name feed
is_own feed (Caller name) = false

-- a row of this status is there, and not marked as deleted
abbrev pub is_active : Status → Bool
is_active Active = true
is_active ToBeDeleted = false

-- a part of this mode lists all rows that its feed has of the kind
abbrev pub is_bulk : Mode → Bool
is_bulk Bulk = true
is_bulk Delta = false

-- a part lists all rows that the feed has of the kind
abbrev pub is_whole : List SetPart → Kind → Bool
is_whole parts kind = list_any (λ (part : SetPart). (place_of_kind part.kind == place_of_kind kind) && is_bulk part.mode) parts

-- whether a stored row, where the set doesn't list it, is taken for one that the feed has no longer
abbrev pub is_left_out : SetRecord → RowChange → Bool
is_left_out set stored = is_whole set.parts stored.row.kind && (is_own set.feed stored.owner && is_active stored.row.status)

-- the stored row, marked as deleted at a moment; its owner stays
abbrev pub marked : ℤ → RowChange → RowChange
marked at stored = record { row = record stored.row { status = ToBeDeleted; modified = at }; owner = stored.owner }

-- what becomes of a row that the set doesn't list
abbrev pub unlisted : SetRecord → ℤ → RowChange → RowChange
unlisted set at stored = if is_left_out set stored then marked at stored else stored

-- what stands under a kind and id becomes what stands there anew
abbrev pub Becomes : SetRecord → ℤ → Option SetRow → Option RowChange → Option RowChange → Type 0
Becomes set at None stored new = new ≡ option_map (unlisted set at) stored
Becomes set at (Some listed) stored (Some new) = Listed set.feed at listed.dated listed.row stored new
Becomes set at (Some listed) stored None = ⊥

-- the rows that a set leads to: one list, since what becomes of each kind and id is one thing
pub record AreNewRows (set : SetRecord) (at : ℤ) (rows new : List RowChange) : Type 0 where
  pub order : AreChanges new
  pub entries : (k : Key) → Becomes set at (look_up set_key k (rows_in set)) (look_up change_key k rows) (look_up change_key k new)

-- the refusal of a listed row that stands with another owner
abbrev pub fault_of_owner : List ℕ → SetRow → Option RowChange → Option PublishFault
fault_of_owner feed listed None = None
fault_of_owner feed listed (Some stored) =
    if is_own feed stored.owner then None else Some (OwnedByOther listed.row.kind listed.row.id stored.owner)

-- the refusal of the first of these
abbrev pub owned_by_other : List ℕ → List RowChange → List SetRow → Option PublishFault
owned_by_other feed rows [] = None
owned_by_other feed rows (listed ∷ later) =
    option_or (fault_of_owner feed listed (look_up change_key (set_key listed) rows)) (owned_by_other feed rows later)

-- the refusal of the first of these kinds that has too many rows
abbrev pub too_many : List Record → List Kind → Option PublishFault
too_many rows [] = None
too_many rows (kind ∷ kinds) =
    if nat_lt row_limit (count_of kind rows) then Some (TooManyRows kind (count_of kind rows)) else too_many rows kinds

-- the refusal for broken references
abbrev pub unsound : List RefFault → Option PublishFault
unsound [] = None
unsound (fault ∷ faults) = Some (Unsound (fault ∷ faults))

-- the first refusal of a set that leads from rows to new ones
abbrev pub refusal_of : SetRecord → List RowChange → List RowChange → Option PublishFault
refusal_of set rows new =
    option_or (owned_by_other set.feed rows (rows_in set)) (option_or (too_many (rows_of new) all_kinds) (unsound (faults_of (rows_of new))))

-- what a set or a list of grants makes of a version: a refusal, nothing new, or the next version
pub data Outcome : Type 0 where
  Refuses : PublishFault → Outcome
  Unchanged : Outcome
  Leads : BaseVersion → Outcome

-- the rows change, and nothing refuses them, which asks for a version more
pub record IsDue (version : BaseVersion) (refusal : Option PublishFault) (new : List RowChange) : Type 0 where
  pub passes : refusal ≡ None
  pub differ : version.rows ≡ new → ⊥

-- what is made of a version whose rows are to become these at a moment, where this is their first refusal
abbrev pub Makes : BaseVersion → ℤ → Option PublishFault → List RowChange → Outcome → Type 0
Makes version at refusal new (Refuses fault) =
    (refusal ≡ Some fault) ⊎ (IsDue version refusal new × (version.number ≡ last_version) × (fault ≡ LastVersion))
Makes version at refusal new Unchanged = (refusal ≡ None) × (version.rows ≡ new)
Makes version at refusal new (Leads next) =
    IsDue version refusal new × (version.number < last_version) × (next ≡ record version { number = version.number + 1; moment = at; rows = new })

-- applying a set to a version
abbrev pub Applies : BaseVersion → SetRecord → ℤ → Outcome → Type 0
Applies version set at outcome = (new : List RowChange) × AreNewRows set at version.rows new × Makes version at (refusal_of set version.rows new) new outcome

-- a call answers with what the set makes, memory aside
abbrev pub Answers : BaseVersion → SetRecord → ℤ → Result (Option Change) (Refusal PublishFault) → Type 0
Answers version set at (Ok None) = Applies version set at Unchanged
Answers version set at (Ok (Some change)) = Applies version set at (Leads (after version change))
Answers version set at (Err (Fault fault)) = Applies version set at (Refuses fault)
Answers version set at (Err NoMemory) = ⊤

-- the change may be added to a table that has this newest version
pub record LeadsOn (newest : BaseVersion) (change : Change) : Type 0 where
  pub next : change.version ≡ newest.number + 1
  pub version : IsVersion (after newest change)
  pub changes : AreChanges change.rows
