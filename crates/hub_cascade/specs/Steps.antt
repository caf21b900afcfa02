-- What is found on the way from a copy to what it makes of a version.
use Rattle.std.specs.Prelude.{◌≡◌, ℕ, ℤ, true, List, [], ◌∷◌, None, Result, Ok, Err, map}
use Rattle.hub_core.specs.Steps.{MakesNext}
use Rattle.hub_core.specs.declared.hub_error.HubError.{HubError}
use Rattle.hub_core.specs.declared.published.Published.{Published}
use Rattle.keeper_memory.specs.Kept.{KeptState}
use Rattle.keeper_memory.specs.copy.Copies.{Copy, held_list}
use Rattle.keeper_memory.specs.copy.Lists.{IsList}
use Rattle.roster_types.specs.Records.{Record}
use Rattle.roster_types.specs.Sets.{SetRecord}
use Rattle.roster_types.specs.declared.set.SetPart.{SetPart}
use Rattle.roster_types.specs.declared.set_row.SetRow.{SetRow}
use Rattle.roster_values.specs.declared.kind.Kind.{Kind}
use Rattle.roster_values.specs.declared.mode.Mode.TheVariants.{Bulk}
use Rattle.version_changes.specs.sets.Applying.{LeadsOn, is_whole, rows_in}
use Rattle.version_core.specs.declared.change.BaseVersion.{BaseVersion}
use Rattle.version_core.specs.declared.change.Change.{Change}
use Rattle.roster_base.specs.Faults.{one_more}
use Rattle.hub_cascade.specs.Cascading.{Cascades}
use Rattle.hub_cascade.specs.Held.{AreHeld, HoldNothing, HoldSomething}
use Rattle.hub_cascade.specs.declared.error.CascadeError.{CascadeError}
use Rattle.hub_cascade.specs.declared.error.CascadeError.TheVariants as error

-- a row of a set, with its date
abbrev pub dated : Record → SetRow
dated row = record { row = row; dated = true }

-- all rows of a kind, each with its date
abbrev pub part_of : Kind → List Record → SetPart
part_of kind rows = record { kind = kind; mode = Bulk; rows = map dated rows }

-- the rows of a kind that a copy holds
abbrev pub held_part : Copy → Kind → SetPart
held_part copy kind = part_of kind (held_list copy kind)

-- a part that a copy may hold
pub record IsHeldPart (kind : Kind) (part : SetPart) : Type 0 where
  pub rows : List Record
  pub list : IsList kind rows
  pub is : part ≡ part_of kind rows

-- one for each of these kinds
abbrev pub AreHeldParts : List Kind → List SetPart → Type 0
AreHeldParts [] [] = Unit {0}
AreHeldParts [] (part ∷ parts) = ⊥
AreHeldParts (kind ∷ kinds) [] = ⊥
AreHeldParts (kind ∷ kinds) (part ∷ parts) = IsHeldPart kind part × AreHeldParts kinds parts

-- a set of a feed that lists these rows as all that it has, each with its date
pub record ListsAll (feed : List ℕ) (held : List Record) (set : SetRecord) : Type 0 where
  pub by : set.feed ≡ feed
  pub rows : rows_in set ≡ map dated held
  pub whole : (kind : Kind) → is_whole set.parts kind ≡ true

-- a set of a feed that lists what each of these copies holds
pub record ListsHeld (copies : Copy → Type 0) (feed : List ℕ) (set : SetRecord) : Type 0 where
  pub rows : List Record
  pub held : AreHeld copies rows
  pub lists : ListsAll feed rows set

-- the set of a copy is had where something is held, and else the answer tells why not
abbrev pub ReadsHeld : (Copy → Type 0) → ℕ → ℕ → Result SetRecord CascadeError → Type 0
ReadsHeld copies before now (Ok set) = HoldSomething copies × (now ≡ before)
ReadsHeld copies before now (Err error.CopyKeeper) = now ≡ one_more before
ReadsHeld copies before now (Err error.NoMemory) = now ≡ before
ReadsHeld copies before now (Err error.NothingHeld) = HoldNothing copies × (now ≡ before)
ReadsHeld copies before now (Err error.HubKeeper) = ⊥
ReadsHeld copies before now (Err (error.Refused fault)) = ⊥

-- the change may be added to a table that has this newest version, and leaves its grants
pub record LeadsWith (newest : BaseVersion) (change : Change) : Type 0 where
  pub on : LeadsOn newest change
  pub grants : change.grants ≡ None

-- what is made of held rows that a set lists
abbrev pub MakesListed : SetRecord → ℤ → Result Published HubError → KeptState → KeptState → Type 0
MakesListed set at result before after = (feed : List ℕ) (held : List Record) → ListsAll feed held set → MakesNext (λ version. Cascades version feed held at) result before after
