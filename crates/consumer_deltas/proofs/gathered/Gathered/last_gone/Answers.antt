use Rattle.std.proofs.Common.{◌∙◌, ap, sym, None}
use Rattle.consumer_deltas.proofs.LastLemmas.{last_id-get}
use Rattle.consumer_deltas.specs.DeltaJudging.{Sofar, last_id}
use Rattle.consumer_deltas.proofs.gathered.Gathered.last_gone.Goals as goal

pub returns : goal.returns
returns c =
    let value = rw (c.deref.ensures.value) at c.last.ensures.value in
    value ∙ sym (last_id-get c.self.inside.gone.items) ∙ ap (λ (sofar : Sofar). last_id None sofar.gone) c.self.view_is
