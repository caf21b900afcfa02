use Rattle.std.proofs.Common.{map, refl, string_bytes}
use Rattle.exchange_link.specs.Between.{copy_between, link_between}
use Rattle.hub_cli.proofs.Wanting.{leads-no-memory}
use Rattle.script_runs.proofs.Below.Telling.{writes_as}
use Rattle.script_runs.specs.Below.Outside.{faults_between, outside_between}
use Rattle.hub_words.specs.Words.{split}
use Rattle.hub_cli.proofs.run.run_words.Goals as goal

pub returns-in-Ok : goal.returns-in-Ok
returns-in-Ok g c = rw (← c.in-Ok.ensures) c.run_spelled-status.ensures

pub returns-in-Err : goal.returns-in-Err
returns-in-Err g c =
    writes_as _ _
    (λ a printed. leads-no-memory
    (outside_between g.F.Folder.files g.F.Folder.faults c.args.folder.now c.args.folder.now (g.K.Clock.moment c.args.clock.now) (faults_between g.H.HubKeeper.fault_count c.args.keeper.now c.args.keeper.now))
    (copy_between g.C.CopyKeeper.stands_for g.C.CopyKeeper.fault_count c.args.copy.now c.args.copy.now)
    (link_between g.L.Link.tells g.L.Link.asked g.L.Link.missed g.L.Link.kept g.L.Link.fault_count c.args.link.now c.args.link.now)
    (g.H.HubKeeper.stands_for c.args.keeper.now) (split (map string_bytes c.args.words.now)) (refl, refl) a (rw c.nothing_done.ensures at printed))
    c.tell.ensures
