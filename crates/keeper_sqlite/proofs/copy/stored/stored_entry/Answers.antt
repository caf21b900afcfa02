use Rattle.std.proofs.Common.{sym, arith}
use Rattle.copy_format.proofs.CopyListings.{no_entry}
use Rattle.keeper_sqlite.proofs.copy.stored.stored_entry.Goals as goal

pub returns-then-after-ge-LAST-clause-entry : goal.returns-then-after-ge-LAST-clause-entry
returns-then-after-ge-LAST-clause-entry g c side copy has sure = sym (no_entry copy c.args.after has.is (omega arith))
