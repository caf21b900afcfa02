use Rattle.std.proofs.Common.{◌≡◌, ◌∙◌, sym, refl, pos, Some}
use Rattle.roster_texts.specs.Moments.{moment_at}
use Rattle.script_runs.proofs.play.first_moment.Goals as goal

at_first : moment_at (pos 1722513600000) ≡ Some (pos 1722513600000)
unfolding moment_at
at_first = refl

pub unreachable-requires : goal.unreachable-requires
unreachable-requires c = cc (sym c.in-None.is ∙ c.at.ensures ∙ at_first)

pub returns : goal.returns
returns c = cc (sym c.in-Some.is ∙ c.at.ensures ∙ at_first)
