use Rattle.std.proofs.Common.{◌≡◌, ◌∙◌, None, true, sym}
use Rattle.keeper_memory.specs.copy.Lists.{ascends, last_from}
use Rattle.consumer_deltas.proofs.DeltaListLemmas.{list_alone}
use Rattle.consumer_deltas.proofs.judging.judge_part.Goals as goal

pub fits_on-requires-clause-puts : goal.fits_on-requires-clause-puts
fits_on-requires-clause-puts c =
    let up : ascends (last_from None c.args.sofar.now.puts) c.args.page.puts ≡ true =
    (λ i. ascends (sym c.last_put.ensures i) (sym c.as_slice-else-count-min.ensures i)) ∙ sym c.ascend.ensures ∙ c.if-not-ascend.false in
    list_alone c.args.place.kind (last_from None c.args.sofar.now.puts) c.args.page.puts c.requires.kinds up
