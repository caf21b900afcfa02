use Rattle.std.proofs.Common.{[], ◌∷◌}
use Rattle.keeper_memory.proofs.KeptLemmas.{no_versions}
use Rattle.keeper_memory.specs.Kept.{KeptState}
use Rattle.version_core.proofs.MarkLemmas.{no_marks}
use Rattle.version_core.specs.Version.{empty_version}
use Rattle.hub_server.specs.Jobs.{service}
use Rattle.hub_server.proofs.Ends.{nothing_ended}
use Rattle.hub_server.proofs.server.serve_task.Goals as goal

-- the state of a new hub, for what is said of some state
abbrev fresh : KeptState
fresh = record { keep = 0; versions = empty_version ∷ []; marks = [] }

pub returns-in-Ok-clause-kept : goal.returns-in-Ok-clause-kept
returns-in-Ok-clause-kept g c = λ now is. let kept = c.serve_opened.ensures.kept now is in (c.in-Ok.hub.kept, c.open.ensures.told c.in-Ok.hub.kept kept.0, kept.1)

pub returns-in-Err-clause-ended : goal.returns-in-Err-clause-ended
returns-in-Err-clause-ended g c = (
  fresh,
  record { versions = no_versions 0; marks = no_marks 0 },
  nothing_ended
      (service g.A.Acceptor.given_count g.A.Acceptor.fault_count g.F.Folder.files g.F.Folder.faults fresh
      c.args.task.connections) c.args.task.feeds c.args.doors.folders.items c.args.doors.acceptors.items
      c.ending_unopened.result c.ending_unopened.ensures.one,
)
