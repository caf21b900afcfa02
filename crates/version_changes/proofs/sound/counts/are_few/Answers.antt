use Rattle.version_changes.specs.sound.Behind.{AreFew}
use Rattle.roster_values.proofs.KindLaws.{each_kind}
use Rattle.version_changes.proofs.sound.counts.are_few.Goals as goal

pub returns : goal.returns
returns c = λ yes. each_kind (λ kind. AreFew kind c.args.base.now c.args.changes.now) (c.all_few.ensures yes)
