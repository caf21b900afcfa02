use Rattle.std.proofs.Common.{◌++◌, ◌∷◌, [], take, sym, ap, ◌∙◌}
use Rattle.std.proofs.lemmas.List.{take_more}
use Rattle.version_core.specs.History.{past_of, pasts_of}
use Rattle.version_core.proofs.RoomLemmas.{map_push}
use Rattle.version_core.proofs.version_log.copied_histories.Goals as goal

pub loop-history-preserved : goal.loop-history-preserved
loop-history-preserved c =
    let histories = c.args.histories.now in
    let n = c.loop-history.history-index in
    let history = c.history-item.result in
    let copy = c.in_ok-copy.field-0 in
    let taken = take_more histories n history c.loop-history-test.true ∙ ap (λ x. take n histories ++ x ∷ []) (sym c.history-item.is) in
    ap pasts_of c.in_ok-push.ensures.items ∙ map_push past_of c.loop-history.copies.items copy
    ∙ ap (λ ps. ps ++ past_of copy ∷ []) c.loop-history.invariant ∙ ap (λ p. pasts_of (take n histories) ++ p ∷ []) c.in_ok-copy.ensures
    ∙ sym (ap pasts_of taken ∙ map_push past_of (take n histories) history)
