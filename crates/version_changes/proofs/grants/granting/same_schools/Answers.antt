use Rattle.std.proofs.lemmas.Bool.Decides.{same_from_decides}
use Rattle.version_changes.proofs.Granted.{Decides-same_schools}
use Rattle.version_changes.specs.grants.Granting.{same_schools}
use Rattle.version_changes.proofs.grants.granting.same_schools.Goals as goal

pub returns : goal.returns
returns c =
    let left = c.args.left.now in
    let right = c.args.right.now in
    same_from_decides c.is_same.result (same_schools left right) c.is_same.ensures (Decides-same_schools left right)
