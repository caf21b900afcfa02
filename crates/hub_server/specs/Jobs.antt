-- What the jobs of a server do.
use Rattle.std.specs.Prelude.{◌≡◌, ◌⊎◌, ◌+◌, ⊤, ℕ, ℤ, List, Option, Result, Ok, Err, IfSome}
use Rattle.csv_sets.specs.Sets.{set_of}
use Rattle.csv_sets.specs.declared.fault.SetFault.{SetFault}
use Rattle.csv_sets.specs.declared.fault.SetFault.TheVariants.{Folder}
use Rattle.hub_core.specs.Steps.{MakesNext}
use Rattle.hub_core.specs.declared.hub_error.HubError.TheVariants as error
use Rattle.hub_history.specs.Histories.{state_after}
use Rattle.hub_history.specs.declared.entry.Entry.{Entry}
use Rattle.hub_server.specs.declared.ending.Ending.{Ending}
use Rattle.hub_server.specs.declared.ending.Ending.TheVariants as ending
use Rattle.hub_server.specs.declared.jobs.Job.{Job}
use Rattle.hub_server.specs.declared.jobs.Job.TheVariants as job
use Rattle.hub_server.specs.declared.jobs.JobEnd.{JobEnd}
use Rattle.hub_server.specs.declared.jobs.JobEnd.TheVariants as job_end
use Rattle.hub_words.specs.declared.task.Feed.{Feed}
use Rattle.hub_shared.specs.declared.feeding.FeedEnd.{FeedEnd}
use Rattle.hub_shared.specs.declared.feeding.FeedEnd.TheVariants as feed_end
use Rattle.keeper_memory.specs.Kept.{KeptState}
use Rattle.outside_ports.specs.Files.{Stored}
use Rattle.roster_base.specs.Faults.{Rose}
use Rattle.roster_base.specs.declared.refusal.Refusal.TheVariants as refusal
use Rattle.roster_types.specs.Sets.{SetRecord}
use Rattle.version_changes.specs.declared.sets.publish_fault.PublishFault.{PublishFault}
use Rattle.version_changes.specs.sets.Applying.{Applies}

-- the feed's files mean this set, or they have this first fault, where they are told
abbrev pub Means : Option (List Stored) → Feed → Result SetRecord SetFault → Type 0
Means files feed set = IfSome files (λ fs. set_of feed.dir feed.name fs ≡ set)

-- the feed's files mean a set
abbrev pub MeansSet : Option (List Stored) → Feed → Type 0
MeansSet files feed = (set : SetRecord) × Means files feed (Ok set)

-- the hub makes nothing of a set at a state that a history leads to
abbrev pub IsTurnedDown : KeptState → SetRecord → Type 0
IsTurnedDown opening set = (log : List Entry) × (log' : List Entry) × (at : ℤ) × (fault : PublishFault)
    × MakesNext (λ version. Applies version set at) (Err (error.Refused fault)) (state_after opening log) (state_after opening log')

-- why a feed is refused: its files mean no set, or the hub turns the set down
abbrev pub IsRefused : KeptState → Option (List Stored) → Feed → Type 0
IsRefused opening files feed =
    ((fault : SetFault) × Means files feed (Err fault)) ⊎ ((set : SetRecord) × Means files feed (Ok set) × IsTurnedDown opening set)

-- the ending that a fault of a set brings
abbrev pub ending_of_fault : SetFault → Ending
ending_of_fault Folder = ending.FolderFailed
ending_of_fault fault = ending.Refused

-- the ending that the end of a feed brings
abbrev pub ending_of : FeedEnd → Ending
ending_of (feed_end.Published published) = ending.Done
ending_of (feed_end.Set (refusal.Fault fault)) = ending_of_fault fault
ending_of (feed_end.Set refusal.NoMemory) = ending.NoMemory
ending_of (feed_end.Hub error.Keeper) = ending.KeeperFailed
ending_of (feed_end.Hub error.NoMemory) = ending.NoMemory
ending_of (feed_end.Hub (error.Refused fault)) = ending.Refused

-- what a feed comes to, between two counts of its folder's faults
abbrev pub Feeds : KeptState → Option (List Stored) → ℕ → ℕ → Feed → Ending → Type 0
Feeds opening files faults faults' feed ending.Done = MeansSet files feed
Feeds opening files faults faults' feed ending.FolderFailed = Rose faults faults'
Feeds opening files faults faults' feed ending.Refused = IsRefused opening files feed
Feeds opening files faults faults' feed ending.KeeperFailed = ⊤
Feeds opening files faults faults' feed ending.AcceptorFailed = ⊥
Feeds opening files faults faults' feed ending.NoMemory = ⊤

-- what an acceptor has counted: the connections that it gave, and its faults
pub record Counts : Type 0 where
  pub given : ℕ
  pub faults : ℕ

-- the same from its parts
abbrev pub counts : ℕ → ℕ → Counts
counts given faults = record { given = given; faults = faults }

-- what an acceptor's job comes to
abbrev pub ServesAll : ℕ → Counts → Counts → Ending → Type 0
ServesAll connections before now ending.Done = now.given ≡ before.given + connections
ServesAll connections before now ending.AcceptorFailed = Rose before.faults now.faults
ServesAll connections before now ending.NoMemory = ⊤
ServesAll connections before now _ = ⊥

-- what jobs are done for: what tells of their acceptors and of their folders, the state that the hub was opened at, and
-- how many connections each acceptor serves
pub record Service (A F : Type 0) : Type 0 where
  pub given : A → ℕ
  pub acceptor_faults : A → ℕ
  pub files : F → Option (List Stored)
  pub folder_faults : F → ℕ
  pub opening : KeptState
  pub connections : ℕ

-- the same from its parts
abbrev pub service : {A F : Type 0} → (A → ℕ) → (A → ℕ) → (F → Option (List Stored)) → (F → ℕ) → KeptState → ℕ
    → Service A F
service given acceptor_faults files folder_faults opening connections = record {
  given = given;
  acceptor_faults = acceptor_faults;
  files = files;
  folder_faults = folder_faults;
  opening = opening;
  connections = connections;
}

-- what an acceptor has counted, as it tells
abbrev pub counted : {A F : Type 0} → Service A F → A → Counts
counted s acceptor = counts (s.given acceptor) (s.acceptor_faults acceptor)

-- what a job does
abbrev pub Does : {A F : Type 0} → Service A F → Job A F → JobEnd A F → Type 0
Does s (job.Feed j) (job_end.Feed folder e) =
    Feeds s.opening (s.files j.folder) (s.folder_faults j.folder) (s.folder_faults folder) j.feed e
Does s (job.Acceptor j) (job_end.Acceptor acceptor e) =
    ServesAll s.connections (counted s j.acceptor) (counted s acceptor) e
Does s _ _ = ⊥

-- a job was given back as it was, since memory ran out
abbrev pub IsUndone : {A F : Type 0} → Job A F → JobEnd A F → Type 0
IsUndone (job.Feed j) end = end ≡ job_end.Feed j.folder ending.NoMemory
IsUndone (job.Acceptor j) end = end ≡ job_end.Acceptor j.acceptor ending.NoMemory
