-- Steps of a world's hub, by calls of its keeper.
use Rattle.std.specs.Prelude.{◌≡◌, ◌≤◌, ◌+◌, ℕ, List, [], ◌++◌}
use Rattle.std.proofs.Common.{inl, refl, sym, ap, subst, ◌∙◌}
use Rattle.hub_spec.specs.rules.Runs.{Runs, Step, end_of}
use Rattle.keeper_memory.specs.Calls.{CallsLead, calls_on, calls_stay}
use Rattle.rest_provider.proofs.Running.{counts_behind, counts_rise, counts_stay, end_behind, runs_behind}
use Rattle.rest_provider.specs.Exchanges.{CountsFailures}
use Rattle.version_core.specs.HubStates.{HubState}
use Rattle.sync_world.specs.Worlds.{HeldWorld}

-- these steps lead from one world to the other, of which so many fail; the keeper's calls go on, and its count rises
-- with each that failed
pub record WalksBy (steps : List Step) (before after : HeldWorld) : Type 0 where
  pub failed : ℕ
  pub run : Runs before.state steps failed
  pub end : end_of before.state steps ≡ after.state
  pub count : CountsFailures before.faults after.faults failed
  pub counts : before.faults ≤ after.faults
  pub calls : CallsLead before.plan after.plan

-- some steps lead from one world to the other
pub record Walks (before after : HeldWorld) : Type 0 where
  pub steps : List Step
  pub by : WalksBy steps before after

pub by_none : (world : HeldWorld) → WalksBy [] world world
by_none world = record { failed = 0; run = tt; end = refl; count = inl (refl, refl); counts = counts_stay world.faults; calls = calls_stay world.plan }

pub by_both : (steps more : List Step) (one two three : HeldWorld) → WalksBy steps one two → WalksBy more two three → WalksBy (steps ++ more) one three
by_both steps more one two three first second = record {
  failed = first.failed + second.failed;
  run = runs_behind one.state steps first.failed more second.failed first.run (subst (λ (s : HubState). Runs s more second.failed) (sym first.end) second.run);
  end = end_behind one.state steps more ∙ ap (λ (s : HubState). end_of s more) first.end ∙ second.end;
  count = counts_behind one.faults two.faults three.faults first.failed second.failed first.count second.count;
  counts = counts_rise one.faults two.faults three.faults first.counts second.counts;
  calls = calls_on one.plan two.plan three.plan first.calls second.calls;
}

pub walks_stay : (world : HeldWorld) → Walks world world
walks_stay world = record { steps = []; by = by_none world }

pub walks_on : (one two three : HeldWorld) → Walks one two → Walks two three → Walks one three
walks_on one two three first second = record { steps = first.steps ++ second.steps; by = by_both first.steps second.steps one two three first.by second.by }
