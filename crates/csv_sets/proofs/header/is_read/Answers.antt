use Rattle.std.proofs.Common.{sym, ◌∙◌}
use Rattle.csv_sets.specs.Headers.{is_known, is_metadata, key_in}
use Rattle.csv_sets.proofs.HeaderSteps.{known_or}
use Rattle.csv_sets.proofs.header.is_read.Goals as goal

pub returns-else-is_known : goal.returns-else-is_known
returns-else-is_known c =
    c.is_some.ensures
    ∙ known_or (is_known c.args.kind c.args.column.now) c.metadata_key.result (is_metadata c.args.column.now) (key_in c.args.column.now) (sym c.is_known.ensures ∙ c.if-is_known.false) c.metadata_key.ensures
