-- One step of a world's hub as a run, and what a run makes of its state.
use Rattle.std.proofs.Common.{◌≡◌, ℕ, ℤ, ◌-◌, ◌^◌, ◌≤◌, inl, inr, [], ◌∷◌, Result, Ok, Err, refl, subst, arith}
use Rattle.hub_core.specs.Steps.{CountsFault, RefusesNothing}
use Rattle.hub_core.specs.declared.hub_error.HubError.{HubError}
use Rattle.hub_core.specs.declared.hub_error.HubError.TheVariants as error
use Rattle.hub_core.specs.declared.published.Published.{Published}
use Rattle.hub_spec.proofs.Growing.{run_grows}
use Rattle.hub_spec.specs.requests.Requests.{wanted_by}
use Rattle.hub_spec.specs.rules.Growth.{Grew}
use Rattle.hub_spec.specs.rules.Runs.{Acts, Answer, Command, Fails, KeeperFailed, OutOfMemory, Reopen, Reopened}
use Rattle.hub_spec.specs.rules.Runs.{Replied, Steps, Take, WantsMemory}
use Rattle.keeper_memory.specs.Calls.{CallsLead}
use Rattle.rest_provider.proofs.Running.{counts_one}
use Rattle.rest_provider.specs.Steps.{CountsFailed}
use Rattle.status_info.specs.declared.reply.Reply.{Reply}
use Rattle.status_info.specs.declared.request.Request.{Request}
use Rattle.sync_world.specs.Acts.{Makes, TakesOne}
use Rattle.sync_world.specs.Walks.{Walks, WalksBy}
use Rattle.sync_world.specs.Worlds.{HeldWorld, IsCounted}

-- a count of keeper's failures doesn't fall
pub counts_on : (before now failed : ℕ) → before ≤ 2 ^ 64 - 1 → CountsFailed before now failed → before ≤ now
counts_on before now failed fits (inl (none, same)) = omega (arith, same)
counts_on before now failed fits (inr (one, more)) = omega (arith, more, fits)

pub by_step : (command : Command) (answer : Answer) (before after : HeldWorld) (failed : ℕ) → IsCounted before → CountsFailed before.faults after.faults failed
    → Steps command before.state answer after.state failed → CallsLead before.plan after.plan → WalksBy (record { command = command; answer = answer; after = after.state } ∷ []) before after
by_step command answer before after failed fits count step calls = record {
  failed = failed;
  run = (failed, 0, step, omega arith, tt);
  end = refl;
  count = counts_one before.faults after.faults failed count;
  counts = counts_on before.faults after.faults failed fits count;
  calls = calls;
}

walk_step : (command : Command) (answer : Answer) (before after : HeldWorld) (failed : ℕ) → IsCounted before → CountsFailed before.faults after.faults failed
    → Steps command before.state answer after.state failed → CallsLead before.plan after.plan → Walks before after
walk_step command answer before after failed fits count step calls =
    record { steps = record { command = command; answer = answer; after = after.state } ∷ []; by = by_step command answer before after failed fits count step calls }

-- a request is taken
pub walk_take : (request : Request) (at : ℤ) (reply : Reply) (before after : HeldWorld) → IsCounted before
    → TakesOne request at reply before after → CallsLead before.plan after.plan → Walks before after
walk_take request at reply before after fits (failed, count, step) calls = walk_step (Take (wanted_by request) at) (Replied reply) before after failed fits count step calls

-- a set is published, or grants are changed
pub walk_makes : (command : Command) (given : Result Published HubError) (before after : HeldWorld) → IsCounted before → Makes command given before after → Walks before after
walk_makes command given before after fits makes = walk_step command makes.answer before after makes.failed fits makes.count makes.step makes.calls

-- the hub is opened again
pub walk_reopens : (given : Result (Unit {0}) HubError) (before after : HeldWorld) → IsCounted before → after.state ≡ before.state → CountsFault before.faults after.faults given → RefusesNothing given
    → CallsLead before.plan after.plan → Walks before after
walk_reopens (Ok done) before after fits same count none calls = walk_step Reopen Reopened before after 0 fits (inl (refl, count)) (Acts (refl, same) refl) calls
walk_reopens (Err error.Keeper) before after fits same count none calls = walk_step Reopen KeeperFailed before after 1 fits (inr (refl, count)) (Fails (inl same) refl refl) calls
walk_reopens (Err error.NoMemory) before after fits same count none calls = walk_step Reopen OutOfMemory before after 0 fits (inl (refl, count)) (WantsMemory same refl refl) calls
walk_reopens (Err (error.Refused fault)) before after fits same count none calls = absurd none

-- a run lets the state grow
pub walk_grew : (before after : HeldWorld) → Walks before after → Grew before.state after.state
walk_grew before after walks = subst (Grew before.state) walks.by.end (run_grows before.state walks.steps walks.by.failed walks.by.run)
