use Rattle.keeper_sqlite.proofs.copy.item_copy.ItemCopy.keeps.Goals as goal

pub returns : goal.returns
returns g c = rw (← c.self.view_is) c.self.invariant
