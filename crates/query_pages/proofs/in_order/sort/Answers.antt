use Rattle.std.proofs.Common.{rules, subst}
use Rattle.std.proofs.lemmas.Fn.{always_returns_same}
use Rattle.std.specs.List.Sorted.{IsSortedBy, IsStableBy}
use Rattle.hub_spec.proofs.Sorting.{by_key}
use Rattle.query_pages.proofs.Placing.{placed_before, placed_keyed, placed_sorted}
use Rattle.query_pages.specs.Sortings.{sorting_shown}
use Rattle.query_pages.specs.declared.in_order.Placed.{Placed}
use Rattle.query_pages.proofs.in_order.sort.Goals as goal

pub returns-clause-rows : goal.returns-clause-rows
returns-clause-rows c =
    let order = c.order-order.result in
    let old = c.args.rows.now.items in
    let new = c.sort_by.new.self.items in
    let weak = by_key order (λ (p : Placed). p.key) in
    let sorted : IsSortedBy (placed_before order) new = c.in_ok-sort_by.ensures.sorted (placed_before order) weak (always_returns_same _ _ _ (λ a r f called. (search rules, search rules))) in
    let stable : IsStableBy (placed_before order) old new = c.in_ok-sort_by.ensures.stable (placed_before order) weak (always_returns_same _ _ _ (λ a r f called. (search rules, search rules))) in
    placed_sorted (sorting_shown c.args.sorting) old new c.requires c.in_ok-sort_by.ensures.permutation
    (subst (λ o. IsSortedBy (placed_before o) new) c.order-order.ensures sorted)
    (subst (λ o. IsStableBy (placed_before o) old new) c.order-order.ensures stable)

pub returns-clause-keys : goal.returns-clause-keys
returns-clause-keys c = placed_keyed (sorting_shown c.args.sorting) c.args.rows.now.items c.sort_by.new.self.items c.requires c.in_ok-sort_by.ensures.permutation
