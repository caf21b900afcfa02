use Rattle.std.proofs.Common.{◌≡◌, ap, subst, ◌∙◌}
use Rattle.version_changes.specs.sound.Behind.{KeepAt, KeepBehind, last_grants}
use Rattle.version_changes.proofs.KeepingLemmas.{grants_kept}
use Rattle.version_changes.proofs.sound.keeping.keep_grants.Goals as goal

pub returns : goal.returns
returns c = λ yes.
    let base = c.args.base.now in
    let changes = c.args.changes.now in
    let newest = c.last_grants-newest.result.now in
    let own : c.as_slice-grants.result.now ≡ base.grants = c.as_slice-grants.ensures in
    grants_kept base changes newest (c.last_grants-newest.ensures ∙ ap (λ grants. last_grants grants changes) own)
    (subst (KeepAt newest base.number) own (c.keep_at.ensures c.if-not-keep_at.false)) (subst (λ grants. KeepBehind newest grants changes) own (c.keep_behind.ensures yes))
