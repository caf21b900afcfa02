use Rattle.std.proofs.Common.{◌∙◌}
use Rattle.filter_grammar.proofs.FirstCharacter.{is_ok_text}
use Rattle.filter_grammar.proofs.decoded.is_character.Goals as goal

pub returns : goal.returns
returns c = c.is_ok.ensures.value ∙ is_ok_text _ _ c.args.bytes.now c.from_utf8.result c.from_utf8.ensures.cases
