use Rattle.std.proofs.Common.{ap, ◌∙◌, sym, arith, IsUtf8}
use Rattle.std.specs.Str.{is_utf8}
use Rattle.std.proofs.lemmas.Str.{IsUtf8-nil, is_utf8-from_IsUtf8}
use Rattle.filter_grammar.proofs.decoded.Decoded.is_text.Goals as goal

pub returns : goal.returns
returns c = sym (c.loop-first.invariant.same ∙ ap is_utf8 c.in_default.ensures.steps.0 ∙ is_utf8-from_IsUtf8 _ IsUtf8-nil)
