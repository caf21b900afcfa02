use Rattle.std.proofs.Common.{◌<◌, arith, length}
use Rattle.csv_sets.proofs.LineSteps.{all_keys-end, all_keys-on}
use Rattle.roster_base.proofs.ListSteps.{next_item}
use Rattle.std.proofs.lemmas.List.{drop_all}
use Rattle.csv_sets.proofs.keys.all_keys.Goals as goal

pub loop-row-preserved : goal.loop-row-preserved
loop-row-preserved c =
    let within : c.loop-row.row-index < length c.args.rows.now = omega arith in
    rw (c.in_ok-push_keys.ensures, c.entries.ensures.entries, c.metadata.ensures) (all_keys-on _ _ _ c.row-item.result _ (next_item _ _ _ _ within c.row-item.is) c.loop-row.invariant)

pub returns : goal.returns
returns c = all_keys-end _ _ _ (drop_all c.loop-row.row-index c.args.rows.now (omega arith)) c.loop-row.invariant
