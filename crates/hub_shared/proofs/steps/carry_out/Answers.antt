use Rattle.std.proofs.Common.{ℕ}
use Rattle.keeper_memory.specs.Kept.{KeptState}
use Rattle.hub_shared.proofs.Calls.{Carried, stands_on, undone, worked_busy, worked_told}
use Rattle.hub_shared.proofs.steps.carry_out.Given.{Over}
use Rattle.hub_shared.proofs.steps.carry_out.Goals.{After-settle-publisher}
use Rattle.hub_shared.proofs.steps.carry_out.Goals as goal
use Rattle.hub_shared.proofs.steps.carry_out.Goals.{else-done, then-done}

-- the work was done, and what it made was handed out
module _ (g : Over) (c : After-settle-publisher g) where
  abbrev stood : KeptState → Type 0
  stood = g.H.HubKeeper.stands_for c.begin-publisher.new.keeper

  abbrev count : ℕ
  count = g.H.HubKeeper.fault_count c.args.keeper.now

  abbrev begun_count : ℕ
  begun_count = g.H.HubKeeper.fault_count c.begin-publisher.new.keeper

  abbrev run_count : ℕ
  run_count = g.H.HubKeeper.fault_count c.run-answer.new.keeper

  carried : Carried (g.W.Work.asks c.args.work) (g.W.Work.fails c.args.work) c.run-answer.result g.N.Naming.opening g.N.Naming.count g.N.Naming.stood
      c.args.publisher c.begin-publisher.result.0 c.settle-publisher.result.0 c.args.hub.now c.begin-publisher.new.hub c.run-answer.new.hub stood count begun_count run_count c.settle-publisher.result.1
  carried = record {
    begun = c.begin-publisher.result.1;
    is = c.in-Ok.is;
    reloads = c.begin-publisher.ensures.reloads;
    stand = c.begin-publisher.ensures.standing;
    did = c.run-answer.ensures.did;
    push = c.settle-publisher.ensures.pushed;
  }

pub returns-after-done-clause-standing : goal.returns-after-done-clause-standing
returns-after-done-clause-standing g c =
    let here = (goal.at.returns-after-done-clause-standing g c).After-settle-publisher in
    let ran = c.run-answer in
    rw c.settle-publisher.ensures.hub (stands_on (carried g here) (g.H.HubKeeper.stands_for ran.new.keeper) ran.ensures.fits ran.ensures.told)

pub returns-after-done-clause-worked : goal.returns-after-done-clause-worked
returns-after-done-clause-worked g c =
    let here = (goal.at.returns-after-done-clause-worked g c).After-settle-publisher in
    elim c.if-done.branch [
      | then-done w ↦ rw w.told-is (worked_told (carried g here) w.if-done.true)
      | else-done w ↦ rw w.told-is (worked_busy (carried g here))
    ]

pub returns-in-Err-clause-worked : goal.returns-in-Err-clause-worked
returns-in-Err-clause-worked g c =
    let k = g.H.HubKeeper.fault_count in
    let begun = c.begin-publisher in
    undone (g.W.Work.asks c.args.work) (g.W.Work.fails c.args.work) g.N.Naming.opening c.args.publisher begun.result.0 c.args.hub.now begun.new.hub (k c.args.keeper.now) (k begun.new.keeper) begun.result.1 c.in-Err.error c.in-Err.is begun.ensures.reloads
