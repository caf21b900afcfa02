use Rattle.roster_values.specs.Kinds.{place_of_kind}
use Rattle.std.proofs.Common.{sym, ◌∙◌, option_copied, arith}
use Rattle.version_core.proofs.HistoryNext.{next_here, none_before, none_from, none_more}
use Rattle.version_core.proofs.histories.following_near.Goals as goal

pub loop-place-init : goal.loop-place-init
loop-place-init c =
    let gap = c.gap_near-place.ensures in
    record {
      in_range = gap.bound;
      none = none_before c.args.version (place_of_kind c.args.kind) (option_copied c.args.after) c.args.histories.now c.requires c.gap_near-place.result gap.bound gap.before;
      beyond = gap.beyond;
    }

-- the history is of a later kind
pub returns-then-place : goal.returns-then-place
returns-then-place c =
    let loop = c.loop-place.invariant in
    sym (none_from c.args.version (place_of_kind c.args.kind) (option_copied c.args.after) c.args.histories.now c.requires c.loop-place.place c.loop-place-test.true c.index-histories-place.result c.index-histories-place.is loop.none loop.beyond (λ same. c.if-place.true (c.place.ensures ∙ same ∙ sym c.place-in-loop-place.ensures)))

-- its row is the next
pub returns-in-Some : goal.returns-in-Some
returns-in-Some c =
    let loop = c.loop-place.invariant in
    let same = sym c.place.ensures ∙ c.if-place.false ∙ c.place-in-loop-place.ensures in
    sym (next_here c.args.version (place_of_kind c.args.kind) (option_copied c.args.after) c.args.histories.now c.requires c.loop-place.place c.loop-place-test.true c.index-histories-place.result c.index-histories-place.is loop.none loop.beyond c.in-Some.change.now same (sym c.in-Some.ensures))

-- it has none at the version
pub loop-place-preserved : goal.loop-place-preserved
loop-place-preserved c =
    let loop = c.loop-place.invariant in
    record {
      in_range = omega (arith, c.loop-place-test.true);
      none = none_more c.args.version (place_of_kind c.args.kind) (option_copied c.args.after) c.args.histories.now c.requires c.loop-place.place c.loop-place-test.true c.index-histories-place.result c.index-histories-place.is loop.none loop.beyond (sym c.in_default.ensures);
      beyond = λ i d le lt. loop.beyond i d (omega (arith, le)) lt;
    }
