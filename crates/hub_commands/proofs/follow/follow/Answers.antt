use Rattle.std.proofs.Common.{ap, refl}
use Rattle.exchange_link.specs.Between.{CopyRun, LinkRun, copy_between, link_between}
use Rattle.hub_core.specs.declared.hub.Hub.{Hub}
use Rattle.hub_follow.specs.Causes.{keeper_view, link_view}
use Rattle.hub_follow.specs.Ends.{synced}
use Rattle.hub_words.specs.Tasks.{Task}
use Rattle.hub_commands.proofs.Following.{follow_not_opened, follow_opened, followed, if_weaker, miss_cause, miss_told}
use Rattle.hub_commands.specs.Outside.{faults_between}
use Rattle.hub_commands.proofs.follow.follow.Goals as goal

pub returns-in-Ok : goal.returns-in-Ok
returns-in-Ok g c =
    let moment = g.K.Clock.moment c.args.clock.now in
    let count = g.H.HubKeeper.fault_count in
    let stands = g.H.HubKeeper.stands_for in
    let views = keeper_view g.C.CopyKeeper.stands_for g.C.CopyKeeper.fault_count g.C.CopyKeeper.leads in
    let links = link_view g.L.Link.tells g.L.Link.asked g.L.Link.missed g.L.Link.kept g.L.Link.fault_count g.L.Link.leads in
    let made = c.follow-followed in
    let task : Task = record { token = c.token.result.now; limit = c.limit.result; tries = c.tries.result } in
    let copies : CopyRun = copy_between g.C.CopyKeeper.stands_for g.C.CopyKeeper.fault_count c.args.copy.now made.new.copy in
    let link : LinkRun = link_between g.L.Link.tells g.L.Link.asked g.L.Link.missed g.L.Link.kept g.L.Link.fault_count c.args.link.now made.new.link in
    follow_opened c.args.words.now.sync.now c.args.words.now.feed.now moment (count c.args.keeper.now) (count made.new.keeper) copies link (stands c.args.keeper.now) (stands made.new.keeper)
    c.token.result.now c.limit.result c.tries.result c.token.ensures c.limit.ensures.value c.tries.ensures.value
    (count c.open.new.keeper) (stands c.open.new.keeper) c.told_end.result c.in-Ok.ensures.told c.in-Ok.ensures.cause
    (followed task c.args.words.now.feed.now moment (faults_between count c.open.new.keeper made.new.keeper) copies link c.moment_of.result c.moment_of.ensures
    (stands c.open.new.keeper) (stands made.new.keeper) c.in-Ok.hub made.new.hub made.result c.told_end.result
    c.in-Ok.ensures.kept c.in-Ok.ensures.settled.0 made.ensures.fits made.ensures.told made.ensures.held made.ensures.hub_cause
    (if_weaker made.result _ _ _ _ (λ a x. (g.C.CopyKeeper.fault_count x.0, x.3, x.4)) (λ x. x) made.ensures.copy_cause)
    (if_weaker made.result _ _ _ _ (λ a x. x) (λ x. ap count x.1) made.ensures.unmoved)
    (record {
      shape = made.ensures.shape;
      copy = made.ensures.copy;
      cause = miss_cause views links task c.args.copy.now made.new.copy c.args.link.now made.new.link (synced made.result) made.ensures.cause;
      first = made.ensures.first;
      told = made.ensures.synchronised;
      cause_told = λ agree after tells stands told. miss_told links task c.args.link.now made.new.link tells (synced made.result) (made.ensures.cause_told agree after tells stands told);
      complete = made.ensures.caught;
      marks = made.ensures.marks;
    })
    c.told_end.ensures)

pub returns-in-Err : goal.returns-in-Err
returns-in-Err g c =
    rw (c.nothing_done.ensures, c.end_of_error.ensures)
    (follow_not_opened c.args.words.now.sync.now c.args.words.now.feed.now (g.K.Clock.moment c.args.clock.now) (g.H.HubKeeper.fault_count c.args.keeper.now) (g.H.HubKeeper.fault_count c.open.new.keeper)
    (copy_between g.C.CopyKeeper.stands_for g.C.CopyKeeper.fault_count c.args.copy.now c.args.copy.now) (link_between g.L.Link.tells g.L.Link.asked g.L.Link.missed g.L.Link.kept g.L.Link.fault_count c.args.link.now c.args.link.now)
    (g.H.HubKeeper.stands_for c.args.keeper.now) (g.H.HubKeeper.stands_for c.open.new.keeper) Hub c.in-Err.error refl refl c.in-Err.ensures.refused c.in-Err.ensures.cause c.in-Err.ensures.told)
