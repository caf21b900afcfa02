use Rattle.std.proofs.Common.{◌++◌, map, subst}
use Rattle.std.proofs.lemmas.Result.{IfOk-weaker}
use Rattle.std.specs.Prelude.{IsTrue}
use Rattle.item_maps.specs.Edits.{entry_of}
use Rattle.keeper_sqlite.specs.hub.Rows.{AreLaid, AreMade, AreRead}
use Rattle.keeper_sqlite.proofs.hub.spans.take_in.Goals as goal

pub returns : goal.returns
returns c seen are =
    let all = seen ++ map entry_of c.args.items.items in
    let rows = c.push_rows.new.rows.items in
    let later = c.lay_out.new.laid in
    let made = subst (λ items. AreMade c.args.base (seen ++ map entry_of items) rows) c.as_slice.ensures.value (c.in_ok-push_rows.ensures seen are.rows c.if-not-branch.false) in
    IfOk-weaker c.lay_out.result (λ done. IsTrue done → AreLaid c.args.base all later) (λ done. IsTrue done → AreRead c.args.base all rows later) (λ done laid is. record { rows = made; later = laid is }) (c.lay_out.ensures seen are.later)
