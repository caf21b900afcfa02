use Rattle.hub_spec.proofs.AloneLemmas.{none_behind}
use Rattle.hub_spec.proofs.marks.laws.no_mark_is_held_behind_the_first.Goals as goal

pub returns : goal.returns
returns c = none_behind
