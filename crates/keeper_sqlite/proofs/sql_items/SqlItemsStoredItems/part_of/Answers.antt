use Rattle.keeper_sqlite.proofs.sql_items.SqlItemsStoredItems.part_of.Goals as goal

pub returns-clause-held : goal.returns-clause-held
returns-clause-held g c = c.part_of.ensures.held c.args.self.now.lost
