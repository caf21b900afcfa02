use Rattle.std.proofs.Common.{rules}
use Rattle.std.proofs.lemmas.Fn.{always_returns_same}
use Rattle.std.proofs.lemmas.List.Sorted.{ranks_by}
use Rattle.std.specs.Ordering.{is_lt}
use Rattle.version_core.specs.RefIndex.{naming_cmp, naming_of}
use Rattle.version_core.specs.declared.ref_index.RefEntry.{RefEntry}
use Rattle.version_core.proofs.IndexedVersions.{keeps_all}
use Rattle.version_core.proofs.NamingLemmas.{naming_total}
use Rattle.version_core.proofs.ref_index.RefRun.take.Goals as goal

pub invariant_of-self-2 : goal.invariant_of-self-2
invariant_of-self-2 c =
    c.sort_unstable_by.ensures.sorted (λ (a b : RefEntry). is_lt (naming_cmp (naming_of a) (naming_of b))) (ranks_by naming_total naming_of)
    (always_returns_same _ _ _ (λ a r f called. (search rules, search rules)))

-- all entries, in order
pub returns-clause-keeps : goal.returns-clause-keeps
returns-clause-keeps c =
    rw (← c.self.view_is, ← c.other.view_is, c.in_ok-append.ensures.other_items)
    (keeps_all c.self.inside.entries.items c.other.inside.entries.items c.append.new.self.items c.sort_unstable_by.new.self.items c.in_ok-append.ensures.items c.sort_unstable_by.ensures.permutation)
