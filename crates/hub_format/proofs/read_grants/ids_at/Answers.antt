use Rattle.std.proofs.Common.{[], ◌∷◌, ap, length, length-append, sym, subst, ◌∙◌, arith}
use Rattle.std.specs.List.{AllByRecursion}
use Rattle.hub_format.specs.Pieces.{IsSized}
use Rattle.version_core.proofs.VersionLemmas.{AllByRecursion-push}
use Rattle.hub_format.proofs.GrantReading.{more_ids}
use Rattle.hub_format.proofs.read_grants.ids_at.Goals as goal

pub loop-left-preserved : goal.loop-left-preserved
loop-left-preserved c =
    let ids = c.loop-left.ids.items in
    let id = c.in-Some.id in
    let later = c.in-Some.later.now in
    let next = rw c.in-Some.is at c.in_ok-id.ensures.id in
    let small = rw c.in-Some.is at c.in_ok-id.ensures.small in
    let is = c.in_ok-push.ensures.items in
    let long = ap length is ∙ length-append ids (id ∷ []) in
    record {
      ids = more_ids c.args.bytes.now c.loop-left.rest.now later ids _ id c.loop-left.invariant.ids next is;
      count = omega (arith, c.loop-left.invariant.count, c.loop-left-test.true, long);
      small = subst (AllByRecursion IsSized) (sym is) (AllByRecursion-push IsSized ids id c.loop-left.invariant.small small);
    }

pub returns-clause-count : goal.returns-clause-count
returns-clause-count c = omega (arith, c.loop-left.invariant.count, c.loop-left-test.false)
