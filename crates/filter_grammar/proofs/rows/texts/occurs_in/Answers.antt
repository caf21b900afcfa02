use Rattle.std.proofs.lemmas.Str.Pattern.{contains_text}
use Rattle.filter_grammar.proofs.PartLemmas.{occurs_in_is}
use Rattle.filter_grammar.proofs.rows.texts.occurs_in.Goals as goal

pub returns : goal.returns
returns c =
    occurs_in_is c.args.part.now c.args.text.now c.contains.result (contains_text c.contains.result c.args.part.now c.args.text.now c.contains.ensures.cases)
