use Rattle.std.proofs.Common.{rules}
use Rattle.std.proofs.lemmas.Fn.{always_returns_same}
use Rattle.std.proofs.lemmas.List.Sorted.{ranks_by}
use Rattle.std.specs.Ordering.{is_lt}
use Rattle.version_core.specs.RefIndex.{naming_cmp, naming_of}
use Rattle.version_core.specs.declared.ref_index.RefEntry.{RefEntry}
use Rattle.version_core.proofs.NamingLemmas.{naming_total}
use Rattle.version_core.proofs.ref_index.in_order.Goals as goal

pub invariant_of-result : goal.invariant_of-result
invariant_of-result c =
    c.sort_unstable_by.ensures.sorted (λ (a b : RefEntry). is_lt (naming_cmp (naming_of a) (naming_of b))) (ranks_by naming_total naming_of)
    (always_returns_same _ _ _ (λ a r f called. (search rules, search rules)))
