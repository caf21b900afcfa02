use Rattle.std.proofs.Common.{◌+◌}
use Rattle.hub_format.specs.Areas.{grants_area, names_area, versions_area}
use Rattle.hub_format.specs.Edits.{clear_version}
use Rattle.hub_format.proofs.Moving.{pushed_thrice}
use Rattle.span_format.proofs.fold.push_clears.Goals as goal

pub returns : goal.returns
returns c =
    let base = c.args.base in
    pushed_thrice c.args.edits.now.items c.push.new.self.items c.push-2.new.self.items c.push-3.new.self.items c.in_ok-clear_version.field-0 c.in_ok-clear_version-2.field-0 c.in_ok-clear_version-3.field-0
    (clear_version versions_area (base + 1)) (clear_version names_area (base + 1)) (clear_version grants_area base)
    c.in_ok-push.ensures.items c.in_ok-push-2.ensures.items c.in_ok-push-3.ensures.items c.in_ok-clear_version.ensures c.in_ok-clear_version-2.ensures c.in_ok-clear_version-3.ensures
