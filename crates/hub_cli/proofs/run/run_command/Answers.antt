use Rattle.std.proofs.Common.{refl}
use Rattle.hub_cli.proofs.Answering.{leads-asked, leads-cascaded, leads-delta, leads-entered, leads-exported}
use Rattle.hub_cli.proofs.Answering.{leads-exported-since, leads-followed, leads-granted, leads-listed}
use Rattle.hub_cli.proofs.Answering.{leads-made-answer, leads-manifest, leads-outbox, leads-published}
use Rattle.hub_cli.proofs.Answering.{leads-rehearsed-answer, leads-sent, leads-shown, leads-synchronised}
use Rattle.script_runs.proofs.Below.Telling.{writes_as}
use Rattle.script_runs.specs.Below.ExportAnswers.{file_answer}
use Rattle.script_runs.specs.Below.Outside.{faults_between}
use Rattle.hub_cli.proofs.run.run_command.Goals as goal

pub returns-in-Show : goal.returns-in-Show
returns-in-Show g c =
    writes_as _ _
    (leads-shown _ _ _ c.args.parsed.now c.in-Show.kind c.in-Show.is (refl, refl) c.shown.result (c.shown.ensures (faults_between g.H.HubKeeper.fault_count c.args.keeper.now c.args.keeper.now)))
    c.tell.ensures

pub returns-in-Publish : goal.returns-in-Publish
returns-in-Publish g c =
    writes_as _ _
    (leads-published _ _ _ c.args.parsed.now c.in-Publish.feeds c.in-Publish.is (refl, refl) c.publish.result c.publish.ensures)
    c.tell-in-Publish.ensures

pub returns-in-Grant : goal.returns-in-Grant
returns-in-Grant g c =
    writes_as _ _
    (leads-granted _ _ _ c.args.parsed.now c.in-Grant.file c.in-Grant.is (refl, refl) c.grant.result c.grant.ensures)
    c.tell-in-Grant.ensures

pub returns-in-Ask : goal.returns-in-Ask
returns-in-Ask g c =
    writes_as _ _
    (leads-asked _ _ _ c.args.parsed.now c.in-Ask.file c.in-Ask.is (refl, refl))
    c.ask.ensures

pub returns-in-Sync : goal.returns-in-Sync
returns-in-Sync g c =
    writes_as _ _
    (leads-synchronised _ _ _ c.args.parsed.now c.in-Sync.task c.in-Sync.is (record { folder = refl; keeper = refl }) c.sync.result c.sync.ensures)
    c.tell-in-Sync.ensures

pub returns-in-SyncDelta : goal.returns-in-SyncDelta
returns-in-SyncDelta g c =
    writes_as _ _
    (leads-delta _ _ _ c.args.parsed.now c.in-SyncDelta.task c.in-SyncDelta.is (record { folder = refl; keeper = refl }) c.delta.result c.delta.ensures)
    c.tell-in-SyncDelta.ensures

pub returns-in-Cascade : goal.returns-in-Cascade
returns-in-Cascade g c =
    writes_as _ _
    (leads-cascaded _ _ _ c.args.parsed.now c.in-Cascade.feed c.in-Cascade.is refl refl c.cascade.result c.cascade.ensures)
    c.tell-in-Cascade.ensures

pub returns-in-Follow : goal.returns-in-Follow
returns-in-Follow g c =
    writes_as _ _
    (leads-followed _ _ _ c.args.parsed.now c.in-Follow.task c.in-Follow.feed c.in-Follow.is refl c.follow.result c.follow.ensures)
    c.tell-in-Follow.ensures

pub returns-in-Enter : goal.returns-in-Enter
returns-in-Enter g c =
    writes_as _ _
    (leads-entered _ _ _ c.args.parsed.now c.in-Enter.task c.in-Enter.is refl refl c.enter.result (c.enter.ensures (faults_between g.H.HubKeeper.fault_count c.args.keeper.now c.args.keeper.now)))
    c.tell-in-Enter.ensures

pub returns-in-Send : goal.returns-in-Send
returns-in-Send g c =
    writes_as _ _
    (leads-sent _ _ _ c.args.parsed.now c.in-Send.task c.in-Send.is (record { folder = refl; keeper = refl }) c.send.result c.send.ensures)
    c.tell-in-Send.ensures

pub returns-in-Outbox : goal.returns-in-Outbox
returns-in-Outbox g c =
    writes_as _ _
    (leads-outbox _ _ _ c.args.parsed.now c.in-Outbox.is (record { folder = refl; keeper = refl }) refl c.outbox.result c.outbox.ensures)
    c.tell-in-Outbox.ensures

pub returns-in-ListHeld : goal.returns-in-ListHeld
returns-in-ListHeld g c =
    writes_as _ _
    (leads-listed _ _ _ c.args.parsed.now c.in-ListHeld.kind c.in-ListHeld.is (record { folder = refl; keeper = refl }) refl c.list.result c.list.ensures)
    c.tell-in-ListHeld.ensures

pub returns-in-ExportManifest : goal.returns-in-ExportManifest
returns-in-ExportManifest g c =
    writes_as _ _
    (leads-manifest _ _ _ c.args.parsed.now c.in-ExportManifest.mode c.in-ExportManifest.is (refl, refl) (record { folder = refl; keeper = refl }) (file_answer c.manifest.result) c.manifest.ensures)
    c.tell_file.ensures

pub returns-in-Export : goal.returns-in-Export
returns-in-Export g c =
    writes_as _ _
    (leads-exported _ _ _ c.args.parsed.now c.in-Export.kind c.in-Export.is (record { folder = refl; keeper = refl }) refl (file_answer c.export.result) c.export.ensures)
    c.tell_file-in-Export.ensures

pub returns-in-ExportSince : goal.returns-in-ExportSince
returns-in-ExportSince g c =
    writes_as _ _
    (leads-exported-since _ _ _ c.args.parsed.now c.in-ExportSince.kind c.in-ExportSince.dir c.in-ExportSince.is refl refl (file_answer c.export_since.result) (c.export_since.ensures (faults_between g.H.HubKeeper.fault_count c.args.keeper.now c.args.keeper.now)))
    c.tell_file-in-ExportSince.ensures

pub returns-in-Rehearse : goal.returns-in-Rehearse
returns-in-Rehearse g c =
    writes_as _ _
    (leads-rehearsed-answer _ _ _ c.args.parsed.now c.in-Rehearse.file c.in-Rehearse.is (refl, refl) refl)
    c.rehearse.ensures

pub returns-in-Make : goal.returns-in-Make
returns-in-Make g c =
    writes_as _ _
    (leads-made-answer _ _ _ c.args.parsed.now c.in-Make.task c.in-Make.is (refl, refl) (record { folder = refl; keeper = refl }) c.make.result c.make.ensures)
    c.tell-in-Make.ensures
