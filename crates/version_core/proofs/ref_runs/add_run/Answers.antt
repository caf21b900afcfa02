use Rattle.std.proofs.Common.{ap, ◌∙◌}
use Rattle.std.specs.List.{list_any}
use Rattle.version_core.proofs.IndexedVersions.{keeps_push}
use Rattle.version_core.proofs.ref_runs.add_run.Goals as goal

pub returns : goal.returns
returns c = λ p any. c.join_long.ensures p (ap (list_any (list_any p)) c.in_ok-push.ensures.items ∙ keeps_push c.args.runs.now.items _ p any)
