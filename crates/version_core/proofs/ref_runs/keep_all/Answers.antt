use Rattle.std.proofs.Common.{◌≡◌, ◌<◌, ◌∙◌, ap, arith, length, set, vec_len, rules}
use Rattle.std.proofs.lemmas.List.{get_or_default}
use Rattle.std.proofs.lemmas.List.Edits.{map_over_more}
use Rattle.std.specs.List.{filter}
use Rattle.version_core.specs.History.{pasts_of}
use Rattle.version_core.specs.RefIndex.{is_kept}
use Rattle.version_core.proofs.ref_runs.keep_all.Goals as goal

pub loop-place-preserved : goal.loop-place-preserved
loop-place-preserved c =
    let loop = c.loop-place.invariant in
    let runs = c.args.runs.now.items in
    let items = c.loop-place.runs.items in
    let place = c.loop-place.place in
    let old = c.index_mut.result.now in
    let len : vec_len c.args.runs.now ≡ length runs = search rules in
    let now : vec_len c.loop-place.runs ≡ length items = search rules in
    let within : place < length runs = omega (arith, c.loop-place-test.true, len, c.len-place-end.ensures) in
    let lt : place < length items = omega (arith, within, len, now, loop.len) in
    record {
      runs = ap (set items place) c.keep.ensures
          ∙ map_over_more (filter (is_kept c.args.oldest (pasts_of c.args.histories.now))) runs items place old within loop.runs (c.index_mut.ensures.value ∙ get_or_default items place old old lt);
      len = loop.len;
    }
