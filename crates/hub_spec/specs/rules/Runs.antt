-- The run of a hub: commands, what they are answered with, and the states between them.
use Rattle.std.specs.Prelude.{◌≡◌, ◌+◌, ◌≤◌, ◌⊎◌, ◌++◌, ⊤, ℕ, ℤ, List, [], ◌∷◌}
use Rattle.hub_spec.specs.rules.Answers.{Answers, sent}
use Rattle.hub_spec.specs.rules.Checks.{refused}
use Rattle.hub_spec.specs.rules.Verdicts.{newest_in}
use Rattle.hub_spec.specs.rules.Wanted.{Wanted}
use Rattle.version_changes.specs.grants.Granting.{GrantsMake}
use Rattle.grant_scopes.specs.declared.entry.GrantEntry.{GrantEntry}
use Rattle.roster_types.specs.Sets.{SetRecord}
use Rattle.version_changes.specs.sets.Applying.{Applies, Leads, Outcome, Refuses, Unchanged}
use Rattle.status_info.specs.declared.cause.Cause.TheVariants.{NoMemory, StoreFailed}
use Rattle.status_info.specs.declared.reply.Reply.{Reply}
use Rattle.version_core.specs.HubStates.{HubState}

-- what a hub may be told at a moment: to publish a set, to set the grants, or to take a request; and to open its store
-- again
pub data Command : Type 0 where
  Publish : SetRecord → ℤ → Command
  SetGrants : List GrantEntry → ℤ → Command
  Take : Wanted → ℤ → Command
  Reopen : Command

-- what a command is answered with: what it made of the newest version, a reply, or that the keeper failed, or memory
pub data Answer : Type 0 where
  Made : Outcome → Answer
  Replied : Reply → Answer
  KeeperFailed : Answer
  OutOfMemory : Answer
  Reopened : Answer

-- the state with what was made of its newest version
abbrev pub state_with : HubState → Outcome → HubState
state_with state (Refuses fault) = state
state_with state Unchanged = state
state_with state (Leads version) = record state { published = state.published ++ version ∷ [] }

-- what a command does by itself
abbrev pub Does : Command → HubState → Answer → HubState → Type 0
Does (Publish set at) before answer after =
    (outcome : Outcome) × Applies (newest_in before) set at outcome × (answer ≡ Made outcome) × (after ≡ state_with before outcome)
Does (SetGrants entries at) before answer after =
    (outcome : Outcome) × GrantsMake (newest_in before) entries at outcome × (answer ≡ Made outcome) × (after ≡ state_with before outcome)
Does (Take wanted at) before answer after =
    (reply : Reply) × Answers before wanted at reply after × (answer ≡ Replied reply)
Does Reopen before answer after = (answer ≡ Reopened) × (after ≡ before)

-- the state is the old one, or the one that the command leads to by itself
abbrev pub ActedOrNot : Command → HubState → HubState → Type 0
ActedOrNot command before after = (after ≡ before) ⊎ ((answer : Answer) × Does command before answer after)

-- how a command is told that the keeper failed
abbrev pub failed_answer : Command → Answer
failed_answer (Take wanted at) = Replied (sent wanted (refused wanted StoreFailed))
failed_answer _ = KeeperFailed

-- how a command is told that memory ran out
abbrev pub memory_answer : Command → Answer
memory_answer (Take wanted at) = Replied (sent wanted (refused wanted NoMemory))
memory_answer _ = OutOfMemory

-- what becomes of a state where memory is wanting: it stays, save that a request has acted or not
abbrev pub Wants : Command → HubState → HubState → Type 0
Wants (Take wanted at) before after = ActedOrNot (Take wanted at) before after
Wants _ before after = after ≡ before

-- a step by a command: what it does by itself, or that the keeper failed, or that memory ran out; `failed` is 1 where
-- the keeper failed
pub data Steps (command : Command) (before : HubState) (answer : Answer) (after : HubState) (failed : ℕ) : Type 0 where
  Acts : Does command before answer after → failed ≡ 0 → Steps command before answer after failed
  Fails : ActedOrNot command before after → answer ≡ failed_answer command → failed ≡ 1 → Steps command before answer after failed
  WantsMemory : Wants command before after → answer ≡ memory_answer command → failed ≡ 0 → Steps command before answer after failed

-- a command, its answer and the state behind it
pub record Step : Type 0 where
  pub command : Command
  pub answer : Answer
  pub after : HubState

-- steps, each from the state before it, of which so many fail at most
abbrev pub Runs : HubState → List Step → ℕ → Type 0
Runs before [] faults = ⊤
Runs before (step ∷ steps) faults =
    (failed : ℕ) × (rest : ℕ) × Steps step.command before step.answer step.after failed × (failed + rest ≤ faults) × Runs step.after steps rest

-- where a run leads
abbrev pub end_of : HubState → List Step → HubState
end_of before [] = before
end_of before (step ∷ steps) = end_of step.after steps
