use Rattle.std.proofs.Common.{sym, ◌∙◌}
use Rattle.row_json.proofs.Guesses.{kind-kept}
use Rattle.row_json.proofs.read.row_of_values.Goals as goal

pub returns-in-Some-clause-kind : goal.returns-in-Some-clause-kind
returns-in-Some-clause-kind c = kind-kept c.args.kind c.args.values.items c.args.metadata c.in-Some.row (sym c.in_ok-row.ensures ∙ c.in-Some.is)
