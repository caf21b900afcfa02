use Rattle.std.proofs.Common.{arith, rules, ap, ◌∙◌}
use Rattle.std.proofs.lemmas.List.{take_rest}
use Rattle.filter_grammar.proofs.FormBytes.{after_percent_or, at_end, at_other, at_percent, at_plus}
use Rattle.form_urlencoded.specs.Form.{decode}
use Rattle.filter_grammar.proofs.decoded.first_byte.Goals as goal

pub returns-in_default : goal.returns-in_default
returns-in_default c = at_end c.args.raw.now c.in_default.len_below

pub returns-in-43 : goal.returns-in-43
returns-in-43 c = rw (take_rest c.args.raw.now 1) (at_plus c.args.raw.now c.in-len1-up.len_at_least c.in-43.is)

pub returns-in-37 : goal.returns-in-37
returns-in-37 c =
    ap decode (at_percent c.args.raw.now c.in-len1-up.len_at_least c.in-37.is)
    ∙ after_percent_or _ c.after_percent.result c.unwrap_or.result _ (take_rest c.args.raw.now 1) (rw (take_rest c.args.raw.now 1) at c.after_percent.ensures) c.unwrap_or.ensures

pub returns-in_default-first : goal.returns-in_default-first
returns-in_default-first c =
    rw (take_rest c.args.raw.now 1) (at_other c.args.raw.now c.in-len1-up.len_at_least (search rules) (search rules))
