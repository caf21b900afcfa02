use Rattle.keeper_sqlite.proofs.sql_items.SqlItemsStoredItems.all_of.Goals as goal

pub returns-clause-held : goal.returns-clause-held
returns-clause-held g c = c.all_of.ensures.held c.args.self.now.lost
