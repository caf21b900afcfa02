use Rattle.keeper_sqlite.proofs.hub.item_hub.ItemHub.keeps.Goals as goal

pub returns : goal.returns
returns g c = rw (← c.self.view_is) c.self.invariant
