use Rattle.std.proofs.Common.{◌∙◌}
use Rattle.keeper_sqlite.proofs.hub.reading.tables_from.Goals as goal

pub returns-in-Some-clause-tables : goal.returns-in-Some-clause-tables
returns-in-Some-clause-tables g c t has sure = c.in-Some.ensures.same ∙ c.in_ok-tables.ensures.tables t has sure
