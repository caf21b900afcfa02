-- What a feed of a hub that threads share comes to.
use Rattle.std.specs.Prelude.{◌≡◌, ℕ, ℤ, List, Option, None, Some, Result, Ok, Err}
use Rattle.csv_sets.specs.Folders.{FolderRead, ReadsFolder}
use Rattle.csv_sets.specs.Sets.{set_of}
use Rattle.csv_sets.specs.declared.fault.SetFault.{SetFault}
use Rattle.hub_core.specs.Steps.{MakesNext}
use Rattle.hub_core.specs.declared.hub_error.HubError.{HubError}
use Rattle.hub_core.specs.declared.hub_error.HubError.TheVariants as error
use Rattle.hub_core.specs.declared.published.Published.{Published}
use Rattle.hub_history.specs.declared.entry.Entry.{Entry}
use Rattle.hub_shared.specs.Standings.{EndsInFault, Receipted}
use Rattle.hub_shared.specs.declared.feeding.FeedEnd.{FeedEnd}
use Rattle.hub_shared.specs.declared.feeding.FeedEnd.TheVariants as end
use Rattle.keeper_memory.specs.Kept.{KeptState}
use Rattle.rest_provider.specs.Moments.{IsMomentOf}
use Rattle.roster_base.specs.declared.refusal.Refusal.{Refusal}
use Rattle.roster_types.specs.Sets.{SetRecord}
use Rattle.version_changes.specs.sets.Applying.{Applies}

-- a set was published once, at the clock's moment, and this is the receipt, which ends in a fault where the keeper
-- failed
abbrev pub IsFed : KeptState → SetRecord → Option ℤ → Result Published HubError → List Entry → Type 0
IsFed opening set moment published receipt = (at : ℤ) × IsMomentOf moment at
    × Receipted (MakesNext (λ version. Applies version set at)) (Err error.Keeper) (Err error.NoMemory) opening published receipt × (published ≡ Err error.Keeper → EndsInFault receipt)

-- a feed whose folder was read: the folder, and the names of the folder and of the feed
pub record FeedRead : Type 0 where
  pub folder : FolderRead
  pub dir : List ℕ
  pub name : List ℕ

-- the same from its parts
abbrev pub feed_read : FolderRead → List ℕ → List ℕ → FeedRead
feed_read folder dir name = record { folder = folder; dir = dir; name = name }

-- the folder's files spell this set, or have this fault
abbrev pub Spells : FeedRead → Result SetRecord (Refusal SetFault) → Type 0
Spells read set = ReadsFolder (λ s. s) read.folder set (set_of read.dir read.name)

-- the folder's files spell a set, which was published; or they don't, and nothing was done
abbrev pub Feeds : KeptState → FeedRead → Option ℤ → FeedEnd → Option (List Entry) → Type 0
Feeds opening read moment (end.Set error) receipt = Spells read (Err error) × (receipt ≡ None)
Feeds opening read moment (end.Published published) receipt =
    (set : SetRecord) × (r : List Entry) × Spells read (Ok set) × (receipt ≡ Some r) × IsFed opening set moment (Ok published) r
Feeds opening read moment (end.Hub e) receipt =
    (set : SetRecord) × (r : List Entry) × Spells read (Ok set) × (receipt ≡ Some r) × IsFed opening set moment (Err e) r
