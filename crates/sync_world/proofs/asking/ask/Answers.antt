use Rattle.std.proofs.Common.{◌≡◌, ℕ, List, refl, sym, subst, ◌∙◌}
use Rattle.sync_world.proofs.AskLemmas.{SoFar, closed, more_so_far, none_so_far, stopped}
use Rattle.sync_world.specs.Walks.{walks_on, walks_stay}
use Rattle.sync_world.proofs.DoneLemmas.{if_done}
use Rattle.sync_world.proofs.asking.ask.Goals as goal

pub asking-init : goal.asking-init
asking-init c =
    let same : c.new-source.result ≡ c.args.bytes = cc in
    record {
      walks = walks_stay _;
      so_far = subst (λ (left : List ℕ). SoFar c.args.at c.args.bytes left c.in_ok-reader.reader.kept 0 c.args.world.now c.args.world.now c.args.said.now.items c.args.said.now.items) (sym same)
          (none_so_far c.args.at c.args.bytes c.in_ok-reader.reader.kept c.args.world.now c.args.said.now.items c.in_ok-reader.ensures.kept);
      fresh = c.in_ok-reader.ensures.fault;
    }

pub asking-preserved : goal.asking-preserved
asking-preserved c =
    let (request, read, closes, acted) = c.in-Answered-false.ensures.turns in
    record {
      walks = walks_on _ _ _ c.asking.invariant.walks c.take_turn.ensures.walks;
      so_far = more_so_far c.asking.invariant.so_far request read acted _ c.saturating_add-taken.ensures (closes ∙ c.in-Answered-false.close-test);
      fresh = c.in-Answered-false.ensures.fresh _ refl;
    }

pub returns-in-Answered-true-clause-acted : goal.returns-in-Answered-true-clause-acted
returns-in-Answered-true-clause-acted c =
    let (request, read, closes, acted) = c.in-Answered-true.ensures.turns in
    if_done c.say_left.result (λ told. closed c.asking.invariant.so_far request read acted _ _ (closes ∙ c.in-Answered-true.close-test) c.saturating_add.ensures told)
    (c.say_left.ensures _ _ c.kept.ensures c.left.ensures)

pub returns-in-Stopped-clause-acted : goal.returns-in-Stopped-clause-acted
returns-in-Stopped-clause-acted c =
    let (stops, same, silent) = c.in-Stopped.ensures.turns in
    if_done c.say_stop.result (λ told. stopped c.asking.invariant.so_far _ _ stops same silent c.saturating_add-in-Stopped.ensures _ told) c.say_stop.ensures

pub returns-in-Answered-true-clause-walks : goal.returns-in-Answered-true-clause-walks
returns-in-Answered-true-clause-walks c = walks_on _ _ _ c.asking.invariant.walks c.take_turn.ensures.walks

pub returns-in-Stopped-clause-walks : goal.returns-in-Stopped-clause-walks
returns-in-Stopped-clause-walks c = walks_on _ _ _ c.asking.invariant.walks c.take_turn.ensures.walks

pub returns-in-NoMemory-clause-walks : goal.returns-in-NoMemory-clause-walks
returns-in-NoMemory-clause-walks c = walks_on _ _ _ c.asking.invariant.walks c.take_turn.ensures.walks
