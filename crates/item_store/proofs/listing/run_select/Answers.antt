use Rattle.sqlite.specs.Held.{state}
use Rattle.item_store.proofs.Lasting.{lasts_by}
use Rattle.item_store.proofs.listing.run_select.Goals as goal

pub returns-clause-lasts : goal.returns-clause-lasts
returns-clause-lasts g c = lasts_by (state g.S.Store c.args.conn.now) (state g.S.Store c.query_all.new.self) _ c.query_all.ensures.survives
