use Rattle.std.proofs.Common.{None, lit<, sym, ◌∙◌}
use Rattle.std.proofs.lemmas.Str.Pattern.{strip_prefix_char}
use Rattle.roster_texts.proofs.Spaces.{front_done}
use Rattle.roster_texts.proofs.trim.drop_front.Goals as goal

pub returns : goal.returns
returns c =
    front_done c.loop-shorter.rest.now (strip_prefix_char 32 c.loop-shorter.rest.now None c.in_default.ensures.cases (lit< tt))
    ∙ sym c.loop-shorter.invariant.same
