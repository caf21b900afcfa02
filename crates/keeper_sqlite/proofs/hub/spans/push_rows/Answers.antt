use Rattle.std.proofs.Common.{◌++◌, map, subst, sym}
use Rattle.item_maps.specs.Edits.{entry_of}
use Rattle.keeper_sqlite.specs.hub.Rows.{AreMade}
use Rattle.keeper_sqlite.proofs.RowsLemmas.{made_more}
use Rattle.keeper_sqlite.proofs.hub.spans.push_rows.Goals as goal

pub returns-in_ok-append-in-Some : goal.returns-in_ok-append-in-Some
returns-in_ok-append-in-Some c seen made done =
    let piece = map entry_of c.args.items.now in
    subst (AreMade c.args.base (seen ++ piece)) (sym c.in_ok-append-in-Some.ensures.items)
    (made_more c.args.base seen piece c.args.rows.now.items c.in-Some.more.items made (λ spans fits is. rw c.in-Some.is at (c.in_ok-more.ensures spans fits is)))
