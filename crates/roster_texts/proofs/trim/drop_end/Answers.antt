use Rattle.std.proofs.Common.{None, lit<, sym, ◌∙◌}
use Rattle.std.proofs.lemmas.Str.Pattern.{strip_suffix_char}
use Rattle.roster_texts.proofs.Spaces.{end_done}
use Rattle.roster_texts.proofs.trim.drop_end.Goals as goal

pub returns : goal.returns
returns c =
    end_done c.loop-shorter.rest.now (strip_suffix_char 32 c.loop-shorter.rest.now None c.in_default.ensures.cases (lit< tt))
    ∙ sym c.loop-shorter.invariant.same
