use Rattle.std.proofs.Common.{◌≡◌, None, subst, arith}
use Rattle.version_core.specs.Grants.{grant_of}
use Rattle.version_changes.proofs.GrantLemmas.{differ_all, differ_more}
use Rattle.version_changes.proofs.sound.grants.tokens_differ.Goals as goal

pub loop-place-preserved : goal.loop-place-preserved
loop-place-preserved c = λ rest.
    let row = c.index-grants-place.result in
    differ_more c.args.grants.now c.loop-place.place row c.loop-place.invariant (omega (arith, c.loop-place-test.true)) c.index-grants-place.is
    (subst (λ rows. grant_of row.grant.token rows ≡ None) c.later.ensures (c.is_alone.ensures c.if-not-is_alone.false)) rest

pub returns : goal.returns
returns c = λ yes. differ_all c.args.grants.now c.loop-place.place c.loop-place.invariant (omega (arith, c.loop-place-test.false))
