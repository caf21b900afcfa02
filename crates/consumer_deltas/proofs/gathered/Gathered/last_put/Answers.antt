use Rattle.std.proofs.Common.{◌∙◌, ap, sym, Some, None}
use Rattle.keeper_memory.specs.copy.Lists.{last_from}
use Rattle.consumer_sync.proofs.KindLemmas.{last_get}
use Rattle.consumer_deltas.specs.DeltaJudging.{Sofar}
use Rattle.consumer_deltas.proofs.gathered.Gathered.last_put.Goals as goal

pub returns-in-Some : goal.returns-in-Some
returns-in-Some c =
    let value = rw (c.deref.ensures.value) at c.in-Some.ensures.value in
    ap Some c.id.ensures ∙ sym (last_get None c.self.inside.puts.items c.in-Some.row.now (sym value)) ∙ ap (λ (sofar : Sofar). last_from None sofar.puts) c.self.view_is
