use Rattle.std.proofs.Common.{◌<◌, ◌∙◌, length, arith}
use Rattle.hub_format.specs.Areas.{grants_area}
use Rattle.hub_format.specs.Format.{FitsGrant, grant_entry}
use Rattle.hub_format.proofs.Steps.{more_all, more_puts}
use Rattle.hub_format.proofs.writing.put_grants.Goals as goal

pub loop-row-preserved : goal.loop-row-preserved
loop-row-preserved c =
    let grants = c.args.grants.now in
    let i = c.loop-row.row-index in
    let within : i < length grants = omega arith in
    record {
      edits = c.in_ok-push.ensures.items ∙ more_puts grants_area (grant_entry c.args.version) c.args.edits.now.items c.loop-row.edits.items grants i c.row-item.result c.in_ok-put_grant.field-0 c.loop-row.invariant.edits within c.row-item.is c.in_ok-put_grant.ensures.edit;
      fits = more_all FitsGrant grants i c.row-item.result c.loop-row.invariant.fits within c.row-item.is c.in_ok-put_grant.ensures.fits;
    }
