use Rattle.filter_grammar.proofs.FoldedTexts.{begins_so}
use Rattle.filter_grammar.proofs.rows.texts.begins.Goals as goal

pub returns-then-part-text : goal.returns-then-part-text
returns-then-part-text c = begins_so c.args.part.now c.args.text.now c.eq_ignore_ascii_case.result c.eq_ignore_ascii_case.ensures.test
