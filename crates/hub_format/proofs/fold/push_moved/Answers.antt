use Rattle.std.proofs.Common.{◌<◌, ◌∙◌, length, arith}
use Rattle.hub_format.specs.Areas.{area_number}
use Rattle.hub_format.proofs.Moving.{more_moved}
use Rattle.hub_format.proofs.fold.push_moved.Goals as goal

pub loop-item-preserved : goal.loop-item-preserved
loop-item-preserved c =
    let items = c.args.items.now in
    let i = c.loop-item.item-index in
    let within : i < length items = omega arith in
    c.in_ok-push.ensures.items ∙ more_moved (area_number c.args.area) c.args.prefix.now c.args.edits.now.items c.loop-item.edits.items items i c.item-item.result c.in_ok-put_moved.field-0 c.loop-item.invariant within c.item-item.is c.in_ok-put_moved.ensures
