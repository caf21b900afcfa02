use Rattle.std.proofs.Common.{◌<◌, ◌∙◌, length, arith}
use Rattle.hub_format.specs.Pieces.{IsSized}
use Rattle.hub_format.proofs.Steps.{more_all, more_sized}
use Rattle.hub_format.proofs.pieces.push_ids.Goals as goal

pub loop-id-preserved : goal.loop-id-preserved
loop-id-preserved c =
    let within : c.loop-id.id-index < length c.args.ids.now = omega arith in
    record {
      bytes = c.in_ok-push_id.ensures.bytes ∙ more_sized _ _ c.args.ids.now c.loop-id.id-index c.id-item.result c.loop-id.invariant.bytes within c.id-item.is;
      fits = more_all IsSized c.args.ids.now c.loop-id.id-index c.id-item.result c.loop-id.invariant.fits within c.id-item.is c.in_ok-push_id.ensures.fits;
    }
