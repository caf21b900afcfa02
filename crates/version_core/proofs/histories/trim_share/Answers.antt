use Rattle.std.proofs.Common.{◌∙◌, ◌<◌, length, refl, ap, set, arith}
use Rattle.std.proofs.lemmas.List.{get_or_default}
use Rattle.version_core.specs.History.{past_of, pasts_of}
use Rattle.version_core.specs.Since.{trimmed}
use Rattle.version_core.specs.declared.history.History.{History}
use Rattle.version_core.proofs.TrimLemmas.{stands_next, stands_same, trims_at}
use Rattle.version_core.proofs.histories.trim_share.Goals as goal

pub loop-place-init : goal.loop-place-init
loop-place-init c = record { stands = stands_same c.args.version (pasts_of c.args.histories.now.items); len = refl }

pub loop-place-preserved : goal.loop-place-preserved
loop-place-preserved c =
    let loop = c.loop-place.invariant in
    let items = c.loop-place.histories.items in
    let place = c.loop-place.place in
    let old = c.index_mut.result.now in
    let lt : place < length items = omega (arith, c.loop-place-test.true, loop.len, c.min-end.ensures, c.len-2.ensures) in
    let is = λ (d : History). c.trim.ensures ∙ ap (λ (h : History). trimmed c.args.version (past_of h)) (c.index_mut.ensures.value ∙ get_or_default items place old d lt) in
    record {
      stands = stands_next c.args.version (pasts_of c.args.histories.now.items) (pasts_of items) (pasts_of (set items place c.trim.new.self)) loop.stands (trims_at c.args.version items place c.trim.new.self is lt);
      len = loop.len;
    }
