use Rattle.std.proofs.Common.{arith, rules}
use Rattle.std.proofs.lemmas.List.{take_rest}
use Rattle.filter_grammar.proofs.FormBytes.{at_code}
use Rattle.filter_grammar.proofs.decoded.after_percent.Goals as goal

pub returns : goal.returns
returns c =
    rw (take_rest c.args.raw.now 2)
    (at_code c.args.raw.now c.in_ok-high.high c.in_ok-low.low c.in-len2-up.len_at_least (search rules) (search rules) (search rules) (search rules))
