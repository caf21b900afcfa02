use Rattle.sqlite.specs.Held.{state}
use Rattle.item_store.proofs.Asking.{once}
use Rattle.item_store.proofs.edits.make_edit.Goals as goal

pub returns-in-Put-clause-asks : goal.returns-in-Put-clause-asks
returns-in-Put-clause-asks g c clean = once (state g.S.Store) c.args.conn.now c.put.new.conn c.put.result (c.put.ensures.asks clean)

pub returns-in-Clear-clause-asks : goal.returns-in-Clear-clause-asks
returns-in-Clear-clause-asks g c clean = once (state g.S.Store) c.args.conn.now c.clear.new.conn c.clear.result (c.clear.ensures.asks clean)
