-- What `sync`, `delta` and `list` answer.
use Rattle.std.specs.Prelude.{◌≡◌, ◌⊎◌, ℕ, List, []}
pub use Rattle.exchange_link.specs.Between.{CopyRun, LinkRun, copy_between, copy_run, link_between}
use Rattle.consumer_commands.specs.Held.{IsHeldText}
pub use Rattle.consumer_commands.specs.Deltas.{IsDeltaOf}
pub use Rattle.consumer_commands.specs.Syncs.{IsSyncOf}
pub use Rattle.hub_words.specs.Tasks.{Task}
use Rattle.keeper_memory.specs.copy.Copies.{Copy}
use Rattle.consumer_commands.specs.Below.DeltaAnswer.{DeltaAnswer}
use Rattle.exchange_link.specs.declared.answer.SyncAnswer.{SyncAnswer}
use Rattle.roster_base.specs.Faults.{Rose}
use Rattle.roster_values.specs.declared.kind.Kind.{Kind}
use Rattle.hub_commands.specs.declared.answer.Answer.{Answer}
use Rattle.hub_commands.specs.declared.answer.End.TheVariants.{CopyFailed, DeltaSynced, Done, NoMemory, Synced}

-- the answer of `sync`: that of a synchronisation between copy and link, of which all holds that is promised of one;
-- memory may run out for its line
abbrev pub IsSyncAnswer : Task → CopyRun → LinkRun → Answer → Type 0
IsSyncAnswer task copy link answer = (answer.done ≡ []) × (a : SyncAnswer) × IsSyncOf task a copy link × ((answer.end ≡ Synced a) ⊎ (answer.end ≡ NoMemory))

-- the same of `delta`
abbrev pub IsDeltaAnswer : Task → CopyRun → LinkRun → Answer → Type 0
IsDeltaAnswer task copy link answer = (answer.done ≡ []) × (a : DeltaAnswer) × IsDeltaOf task a copy link × ((answer.end ≡ DeltaSynced a) ⊎ (answer.end ≡ NoMemory))

-- each copy for which the keeper stands is one for which it stood
abbrev pub CopyStays : CopyRun → Type 0
CopyStays copy = (c : Copy) → copy.stands c → copy.stood c

-- how a command ends that prints of the copy: with such a text, by a failure of the keeper, whose count of faults rose,
-- or for want of memory
abbrev pub ReadEnds : (List ℕ → Type 0) → CopyRun → Answer → Type 0
ReadEnds is_text copy answer =
    ((answer.end ≡ Done) × is_text answer.done × (copy.faults_now ≡ copy.faults_before))
    ⊎ ((answer.end ≡ CopyFailed) × (answer.done ≡ []) × Rose copy.faults_before copy.faults_now)
    ⊎ ((answer.end ≡ NoMemory) × (answer.done ≡ []))

-- the answer of `list`, which leaves the copy as it is: the text of the rows
abbrev pub IsListAnswer : Kind → CopyRun → Answer → Type 0
IsListAnswer kind copy answer = CopyStays copy × ReadEnds (IsHeldText kind copy.stands) copy answer
