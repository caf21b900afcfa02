use Rattle.std.proofs.Common.{rules}
use Rattle.std.proofs.lemmas.Cmp.{nat_list_cmp_total}
use Rattle.std.proofs.lemmas.Fn.{always_returns_same}
use Rattle.std.proofs.lemmas.List.Sorted.{ranks_by}
use Rattle.roster_base.proofs.Firsts.{lower}
use Rattle.roster_base.proofs.order.sort.Goals as goal

pub returns-clause-sorted : goal.returns-clause-sorted
returns-clause-sorted g c =
    c.in_ok-sort_by.ensures.sorted (lower g.T.Keyed.key_of) (ranks_by nat_list_cmp_total g.T.Keyed.key_of)
    (always_returns_same _ _ _ (λ a r f called. (search rules, search rules)))

pub returns-clause-stable : goal.returns-clause-stable
returns-clause-stable g c =
    c.in_ok-sort_by.ensures.stable (lower g.T.Keyed.key_of) (ranks_by nat_list_cmp_total g.T.Keyed.key_of)
    (always_returns_same _ _ _ (λ a r f called. (search rules, search rules)))
