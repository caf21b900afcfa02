use Rattle.std.proofs.Common.{◌≡◌, arith}
use Rattle.std.proofs.lemmas.List.{drop_all}
use Rattle.std.proofs.lemmas.List.Elements.{All-nil, All-push}
use Rattle.std.proofs.lemmas.Result.{err_from_is_err_and}
use Rattle.roster_types.specs.Records.{Record}
use Rattle.roster_base.proofs.ListSteps.{next_item}
use Rattle.row_json.proofs.ItemSteps.{collects-end, collects-on, collects-start, reads-fail}
use Rattle.row_json.proofs.read.read_objects.Goals as goal

pub loop-object-init : goal.loop-object-init
loop-object-init c = record {
  rows = collects-start _ _ c.args.objects.now c.new-rows.ensures.items;
  kinds = rw c.new-rows.ensures.items (All-nil (λ (r : Record). r.kind ≡ c.args.kind));
}

pub loop-object-preserved : goal.loop-object-preserved
loop-object-preserved c = record {
  rows = collects-on c.object-item.result _ _ c.loop-object.invariant.rows (next_item c.args.objects.now c.loop-object.object-index c.object-item.result c.object-item.result c.loop-object-test.true c.object-item.is)
      c.in_ok-row.ensures.row c.in_ok-push.ensures.items;
  kinds = rw c.in_ok-push.ensures.items (All-push (λ (r : Record). r.kind ≡ c.args.kind) _ c.in_ok-row.row c.loop-object.invariant.kinds c.in_ok-row.ensures.kind);
}

pub returns : goal.returns
returns c = record {
  rows = collects-end c.loop-object.invariant.rows (drop_all c.loop-object.object-index c.args.objects.now (omega arith));
  kinds = c.loop-object.invariant.kinds;
}

pub returns-in_err-row-clause-rows : goal.returns-in_err-row-clause-rows
returns-in_err-row-clause-rows c =
    let p = err_from_is_err_and c.from_residual.result c.from_residual.ensures.1 in
    rw (p.1, p.2)
    (reads-fail c.object-item.result c.in_err-row.field-0.0 c.loop-object.invariant.rows.reads
    (next_item c.args.objects.now c.loop-object.object-index c.object-item.result c.object-item.result c.loop-object-test.true c.object-item.is) c.in_err-row.ensures.row)
