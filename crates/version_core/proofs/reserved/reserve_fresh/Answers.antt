use Rattle.std.proofs.Common.{◌≡◌, ◌<◌, [], ◌∷◌, vec_capacity, vec_len, sym, subst}
use Rattle.version_core.specs.History.{AreFresh}
use Rattle.version_core.specs.declared.history.FreshEntries.{FreshEntries}
use Rattle.version_core.proofs.PutLemmas.{all_append}
use Rattle.version_core.proofs.reserved.reserve_fresh.Goals as goal

pub loop-alloc-preserved : goal.loop-alloc-preserved
loop-alloc-preserved c =
    let P = λ (fresh : FreshEntries). (fresh.entries.items ≡ []) × (vec_len fresh.entries < vec_capacity fresh.entries) in
    subst AreFresh (sym c.in_ok-push.ensures.items) (all_append P c.loop-alloc.fresh.items (c.in_ok-fresh_entries.field-0 ∷ []) c.loop-alloc.invariant (c.in_ok-fresh_entries.ensures, tt))
