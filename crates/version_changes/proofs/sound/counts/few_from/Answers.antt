use Rattle.std.proofs.Common.{◌≤◌, subst, arith}
use Rattle.version_core.specs.Version.{row_limit}
use Rattle.version_changes.proofs.SoundCounts.{few_more, few_start}
use Rattle.version_changes.proofs.sound.counts.few_from.Goals as goal

pub loop-place-init : goal.loop-place-init
loop-place-init c = record {
  in_range = omega arith;
  count = c.requires.first;
  few = few_start c.args.kind c.args.base.now c.args.changes.now (subst (λ n. n ≤ row_limit) c.requires.first c.requires.few);
}

pub count_after-requires-clause-place : goal.count_after-requires-clause-place
count_after-requires-clause-place c = omega (arith, c.loop-place-test.true)

pub count_after-requires-clause-count : goal.count_after-requires-clause-count
count_after-requires-clause-count c = c.loop-place.invariant.count

pub loop-place-preserved : goal.loop-place-preserved
loop-place-preserved c = record {
  in_range = omega (arith, c.loop-place-test.true);
  count = c.in-Some.ensures.count;
  few = few_more c.args.kind c.args.base.now c.args.changes.now c.loop-place.place c.loop-place.invariant.few (subst (λ n. n ≤ row_limit) c.in-Some.ensures.count c.in-Some.ensures.few);
}

pub returns : goal.returns
returns c = λ yes n le. c.loop-place.invariant.few n (omega (arith, le, c.loop-place-test.false))
