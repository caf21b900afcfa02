use Rattle.std.proofs.Common.{[], subst, sym}
use Rattle.keeper_sqlite.specs.hub.Rows.{AreMade}
use Rattle.keeper_sqlite.proofs.RowsLemmas.{laid_none, made_none}
use Rattle.keeper_sqlite.proofs.hub.spans.span_rows.Goals as goal

pub returns-clause-read : goal.returns-clause-read
returns-clause-read g c m stands sure =
    c.in_ok-read_all.ensures.read m stands sure
    (record { rows = subst (AreMade c.args.base []) (sym c.new.ensures.items) (made_none c.args.base); later = laid_none c.args.base c.new-2.result c.new-2.ensures.empty })
