use Rattle.sync_world.specs.Walks.{walks_on, walks_stay}
use Rattle.sync_world.proofs.TrafficLemmas.{all_left, all_passed, so_begins, so_on}
use Rattle.sync_world.proofs.traffic.come_to_pass.Goals as goal

pub events-init : goal.events-init
events-init c = record { walks = walks_stay _; so = so_begins _ _ _ _ _ _ }

pub events-preserved : goal.events-preserved
events-preserved c = record {
  walks = walks_on _ _ _ c.events.invariant.walks c.happen.ensures.walks;
  so = so_on c.events.invariant.so c.in-Some.event c.in-Some.ensures.taken c.in_ok-happen.ensures.acted;
}

pub returns-in_default-clause-passed : goal.returns-in_default-clause-passed
returns-in_default-clause-passed c = all_passed c.events.invariant.so c.in_default.ensures.taken

pub returns-in_default-clause-aside : goal.returns-in_default-clause-aside
returns-in_default-clause-aside c = all_left c.events.invariant.so c.in_default.ensures.taken

pub returns-in_err-happen-clause-walks : goal.returns-in_err-happen-clause-walks
returns-in_err-happen-clause-walks c = walks_on _ _ _ c.events.invariant.walks c.happen.ensures.walks
