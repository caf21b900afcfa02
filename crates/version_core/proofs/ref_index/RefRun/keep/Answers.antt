use Rattle.std.proofs.Common.{sym, subst, rules}
use Rattle.std.proofs.lemmas.Fn.{filter_same}
use Rattle.std.proofs.lemmas.List.Kept.{IsSortedBy-filter}
use Rattle.std.proofs.lemmas.List.Sorted.{ranks_by}
use Rattle.std.specs.Ordering.{is_lt}
use Rattle.version_core.specs.History.{pasts_of}
use Rattle.version_core.specs.RefIndex.{AreInOrder, is_kept, naming_cmp, naming_of}
use Rattle.version_core.specs.declared.ref_index.RefEntry.{RefEntry}
use Rattle.version_core.proofs.NamingLemmas.{naming_total}
use Rattle.version_core.proofs.ref_index.RefRun.keep.Goals as goal

pub invariant_of-self : goal.invariant_of-self
invariant_of-self c =
    let test = is_kept c.args.oldest (pasts_of c.args.histories.now) in
    let kept = filter_same _ test _ (λ x b f' k. search rules) _ _ c.retain.ensures.filtered in
    subst AreInOrder (sym kept) (IsSortedBy-filter (λ (a b : RefEntry). is_lt (naming_cmp (naming_of a) (naming_of b))) (ranks_by naming_total naming_of) test c.self.inside.entries.items c.self.invariant)

pub returns : goal.returns
returns c = rw (← c.self.view_is) (filter_same _ _ _ (λ x b f' k. search rules) _ _ c.retain.ensures.filtered)
