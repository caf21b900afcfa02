use Rattle.sqlite.specs.Held.{state}
use Rattle.item_store.proofs.OneMap.{stands_once}
use Rattle.store_laws.proofs.items.one_map.Goals as goal

pub returns : goal.returns
returns g c m n clean live p q = stands_once (state g.S.Store c.args.conn.now) m n clean live p q
