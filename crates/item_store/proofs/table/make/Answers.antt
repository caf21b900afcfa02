use Rattle.sqlite.specs.Held.{state}
use Rattle.item_store.proofs.Asking.{once}
use Rattle.item_store.proofs.table.make.Goals as goal

pub returns-clause-asks : goal.returns-clause-asks
returns-clause-asks g c clean = once (state g.S.Store) c.args.conn.now c.create.new.conn c.create.result (c.create.ensures.asks clean)
