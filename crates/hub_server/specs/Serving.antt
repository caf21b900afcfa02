-- What a server leaves of what was handed to it.
use Rattle.std.specs.Prelude.{◌≡◌, ◌⊎◌, ◌+◌, ℕ, List, [], ◌∷◌, Option, map}
use Rattle.std.specs.List.{AllZip}
use Rattle.hub_history.specs.Histories.{IsLegal, state_after}
use Rattle.hub_history.specs.declared.entry.Entry.{Entry}
use Rattle.hub_server.specs.Endings.{first_of}
use Rattle.hub_server.specs.Jobs.{IsRefused, MeansSet, Service}
use Rattle.hub_server.specs.declared.ending.Ending.{Ending}
use Rattle.hub_server.specs.declared.ending.Ending.TheVariants as ending
use Rattle.hub_server.specs.declared.jobs.Job.{Job}
use Rattle.hub_server.specs.declared.jobs.Job.TheVariants as job
use Rattle.hub_server.specs.declared.jobs.JobEnd.{JobEnd}
use Rattle.hub_server.specs.declared.jobs.JobEnd.TheVariants as job_end
use Rattle.hub_words.specs.declared.task.Feed.{Feed}
use Rattle.keeper_memory.specs.Commits.{with_commit}
use Rattle.keeper_memory.specs.Kept.{KeptState}
use Rattle.keeper_memory.specs.declared.hub_commit.HubCommit.{HubCommit}
use Rattle.outside_ports.specs.Files.{Stored}
use Rattle.roster_base.specs.Faults.{Rose}

-- a relation holds at some place of two lists
abbrev pub SomeZip : {A B : Type 0} → (A → B → Type 0) → List A → List B → Type 0
SomeZip R [] ys = ⊥
SomeZip R (x ∷ xs) [] = ⊥
SomeZip R (x ∷ xs) (y ∷ ys) = R x y ⊎ SomeZip R xs ys

-- some of these counted a fault
abbrev pub SomeRose : {A : Type 0} → (A → ℕ) → List A → List A → Type 0
SomeRose faults before after = SomeZip (λ x y. Rose (faults x) (faults y)) before after

-- each acceptor gave so many connections
abbrev pub AllServed : {A : Type 0} → (A → ℕ) → ℕ → List A → List A → Type 0
AllServed given connections before after = AllZip (λ x y. given y ≡ given x + connections) before after

-- each feed's folder has a set, where it tells
abbrev pub AllMean : {F : Type 0} → (F → Option (List Stored)) → List Feed → List F → Type 0
AllMean files feeds folders = AllZip (λ feed folder. MeansSet (files folder) feed) feeds folders

-- some feed is refused at a state that a history makes of the opening one
abbrev pub SomeRefused : {F : Type 0} → (F → Option (List Stored)) → KeptState → List Feed → List F → Type 0
SomeRefused files opening feeds folders = SomeZip (λ feed folder. IsRefused opening (files folder) feed) feeds folders

-- a state comes of another by a history; and where the keeper failed at the last commit, with that commit or without it
abbrev pub ComesBy : KeptState → KeptState → Type 0
ComesBy opening now = (log : List Entry) × IsLegal opening log
    × ((now ≡ state_after opening log) ⊎ ((commit : HubCommit) × (now ≡ with_commit (state_after opening log) commit)))

-- what the ending says of what was handed in
pub record Ended {A F : Type 0} (s : Service A F) (feeds : List Feed) (folders folders' : List F)
    (acceptors acceptors' : List A) (e : Ending) : Type 0 where
  pub done : e ≡ ending.Done → AllServed s.given s.connections acceptors acceptors' × AllMean s.files feeds folders
  pub folder_failed : e ≡ ending.FolderFailed → SomeRose s.folder_faults folders folders'
  pub acceptor_failed : e ≡ ending.AcceptorFailed → SomeRose s.acceptor_faults acceptors acceptors'
  pub refused : e ≡ ending.Refused → SomeRefused s.files s.opening feeds folders

-- ---- what the jobs gave back

-- the folders that the feeds gave back
abbrev pub folders_of : {A F : Type 0} → List (JobEnd A F) → List F
folders_of [] = []
folders_of (job_end.Feed folder e ∷ ends) = folder ∷ folders_of ends
folders_of (job_end.Acceptor acceptor e ∷ ends) = folders_of ends

-- the acceptors that were given back
abbrev pub acceptors_of : {A F : Type 0} → List (JobEnd A F) → List A
acceptors_of [] = []
acceptors_of (job_end.Feed folder e ∷ ends) = acceptors_of ends
acceptors_of (job_end.Acceptor acceptor e ∷ ends) = acceptor ∷ acceptors_of ends

abbrev pub ending_in : {A F : Type 0} → JobEnd A F → Ending
ending_in (job_end.Feed folder e) = e
ending_in (job_end.Acceptor acceptor e) = e

-- the first ending of a job that isn't Done
abbrev pub ending_of_all : {A F : Type 0} → List (JobEnd A F) → Ending
ending_of_all ends = first_of (map ending_in ends)

-- ---- what the jobs were given

abbrev pub feeds_in : {A F : Type 0} → List (Job A F) → List Feed
feeds_in [] = []
feeds_in (job.Feed j ∷ jobs) = j.feed ∷ feeds_in jobs
feeds_in (job.Acceptor j ∷ jobs) = feeds_in jobs

abbrev pub folders_in : {A F : Type 0} → List (Job A F) → List F
folders_in [] = []
folders_in (job.Feed j ∷ jobs) = j.folder ∷ folders_in jobs
folders_in (job.Acceptor j ∷ jobs) = folders_in jobs

abbrev pub acceptors_in : {A F : Type 0} → List (Job A F) → List A
acceptors_in [] = []
acceptors_in (job.Feed j ∷ jobs) = acceptors_in jobs
acceptors_in (job.Acceptor j ∷ jobs) = j.acceptor ∷ acceptors_in jobs
