use Rattle.std.proofs.Common.{◌<◌, ◌∙◌, length, arith}
use Rattle.span_format.proofs.Steps.{more_names}
use Rattle.span_format.proofs.fold.push_hidden.Goals as goal

pub loop-name-preserved : goal.loop-name-preserved
loop-name-preserved c =
    let names = c.args.names.now in
    let i = c.loop-name.name-index in
    let within : i < length names = omega arith in
    c.in_ok-push.ensures.items ∙ more_names c.args.version c.args.edits.now.items c.loop-name.edits.items names i c.name-item.result c.in_ok-hide_name.field-0 c.loop-name.invariant within c.name-item.is c.in_ok-hide_name.ensures
