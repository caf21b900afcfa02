use Rattle.std.proofs.Common.{◌≡◌, ◌≤◌, ◌∷◌, [], suc, length, length-append, ap, arith}
use Rattle.version_core.specs.Version.{Log, after, empty_version, last_or}
use Rattle.version_core.proofs.TableLemmas.{kept_more, kept_rest}
use Rattle.version_core.proofs.table.Table.add.Goals as goal

pub retire-requires : goal.retire-requires
retire-requires c =
    let versions = c.self.inside.log.versions in
    let pushed = ap (λ (log : Log). length log.versions) c.push.ensures in
    let long = length-append versions (after (last_or empty_version versions) c.args.change ∷ []) in
    omega (arith, pushed, long, c.self.invariant.some)

-- one version is too many: the oldest goes
pub invariant_of-self : goal.invariant_of-self
invariant_of-self c =
    let table = c.self.inside in
    let versions = table.log.versions in
    let next = after (last_or empty_version versions) c.args.change in
    let pushed = ap (λ (log : Log). log.versions) c.push.ensures in
    let long = length-append versions (next ∷ []) in
    let full : length versions ≡ suc table.keep = omega (arith, ap length pushed, long, c.later.ensures, c.if-later-self.true, c.self.invariant.few) in
    rw (c.retire.ensures, pushed) (kept_rest table.keep versions next c.self.invariant (rw (← c.self.view_is) at c.requires.next) (rw (← c.self.view_is) at c.requires.version) full)

-- one version more stands
pub invariant_of-self-else-later-self : goal.invariant_of-self-else-later-self
invariant_of-self-else-later-self c =
    let table = c.self.inside in
    let versions = table.log.versions in
    let next = after (last_or empty_version versions) c.args.change in
    let pushed = ap (λ (log : Log). log.versions) c.push.ensures in
    let long = length-append versions (next ∷ []) in
    let few : length versions ≤ table.keep = omega (arith, ap length pushed, long, c.later.ensures, c.if-later-self.false) in
    rw pushed (kept_more table.keep versions next c.self.invariant (rw (← c.self.view_is) at c.requires.next) (rw (← c.self.view_is) at c.requires.version) few)
