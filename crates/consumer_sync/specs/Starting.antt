-- The beginning of a synchronisation, and its end.
use Rattle.std.specs.Prelude.{◌≡◌, ◌⊎◌, ℕ, ◌+◌, List, Option, None, Result, Ok, Err}
use Rattle.keeper_memory.specs.copy.Changes.{copy_after}
use Rattle.keeper_memory.specs.copy.Copies.{Copy}
use Rattle.keeper_memory.specs.declared.copy.change.CopyChange.TheVariants.{Drop, Run, Swap}
use Rattle.keeper_memory.specs.declared.copy.state.StageState.{StageState}
use Rattle.exchange_link.specs.Synchronised.{own_stage}
use Rattle.exchange_link.specs.declared.answer.SyncAnswer.{SyncAnswer}
use Rattle.exchange_link.specs.declared.answer.SyncAnswer.TheVariants as answer
use Rattle.exchange_link.specs.declared.beginning.NoRun.{NoRun}
use Rattle.exchange_link.specs.declared.beginning.NoRun.TheVariants as no_run

-- the answer where no run was entered
abbrev pub unentered : NoRun → SyncAnswer
unentered no_run.LastRun = answer.LastRun
unentered no_run.KeeperFault = answer.KeeperFault
unentered no_run.NoMemory = answer.NoMemory

-- the copy without a stage under another token
abbrev pub without_other : List ℕ → Copy → Copy
without_other token c = record c { stage = own_stage token c.stage }

-- the copy with which the kinds begin: under the next run, without a stage under another token
abbrev pub run_begun : List ℕ → Copy → Copy
run_begun token before = without_other token (copy_after (Run (before.run + 1)) before)

-- letting a stage under another token go; after an error it may be gone
abbrev pub Drops : List ℕ → Result (Option StageState) SyncAnswer → Copy → Copy → Type 0
Drops token (Ok s) before after = after ≡ without_other token before
Drops token (Err e) before after = (after ≡ before) ⊎ ((own_stage token before.stage ≡ None) × (after ≡ copy_after Drop before))

-- a call's beginning that fails
pub record Aborts (token : List ℕ) (before after : Copy) : Type 0 where
  pub run : (after.run ≡ before.run) ⊎ (after.run ≡ before.run + 1)
  pub held : after.held ≡ before.held
  pub entries : after.entries ≡ before.entries
  pub last_number : after.last_number ≡ before.last_number
  pub stage : (after.stage ≡ before.stage) ⊎ ((own_stage token before.stage ≡ None) × (after.stage ≡ None))

-- the first answers: the cause of the last run, the keeper's count, memory
abbrev pub StartCause : Type 0 → SyncAnswer → Type 0
StartCause broke answer.LastRun = Unit {0}
StartCause broke answer.KeeperFault = broke
StartCause broke answer.NoMemory = Unit {0}
StartCause broke a = ⊥

-- swapping the stage in
abbrev pub SwapsIn : SyncAnswer → ℕ → Copy → Copy → Type 0
SwapsIn (answer.Complete v) pin before after = (v ≡ pin) × (after ≡ copy_after Swap before)
SwapsIn answer.KeeperFault pin before after = (after ≡ before) ⊎ (after ≡ copy_after Swap before)
SwapsIn answer.NoMemory pin before after = after ≡ before
SwapsIn a pin before after = ⊥
