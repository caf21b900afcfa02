use Rattle.std.proofs.Common.{◌≡◌, [], ◌∷◌, ◌++◌, map, sym, ap, ◌∙◌}
use Rattle.hub_format.specs.Format.{FitsGrant, grant_entry}
use Rattle.hub_format.specs.Behind.{entry_behind, own_entry}
use Rattle.hub_format.proofs.ItemLists.{all_found, all_read, more_read, value_at}
use Rattle.hub_format.proofs.read_grants.grants_of.Goals as goal

pub loop-item-preserved : goal.loop-item-preserved
loop-item-preserved c =
    let entry : entry_behind c.item-item.result ≡ own_entry c.in-Some.grant = rw c.in-Some.is at c.in_ok-grant.ensures.whole in
    let entries = more_read entry_behind own_entry c.args.items.now c.loop-item.found.items c.loop-item.item-index c.item-item.result c.in-Some.grant c.loop-item.invariant.1 c.loop-item-test.true c.item-item.is entry in (
      (λ version grants all same.
          let there = value_at (grant_entry version) FitsGrant c.args.items.now grants c.loop-item.item-index c.item-item.result same all c.loop-item-test.true c.item-item.is in
          let grant : c.in-Some.grant ≡ there.0 = rw c.in-Some.is at (c.in_ok-grant.ensures.found version there.0 there.1 there.2) in
          let so_far = c.loop-item.invariant.0 version grants all same in
          c.in_ok-push.ensures.items ∙ (λ i. so_far i ++ grant i ∷ []) ∙ sym there.3),
      entries ∙ ap (map own_entry) (sym c.in_ok-push.ensures.items),
    )

pub returns-clause-found : goal.returns-clause-found
returns-clause-found c version grants all same = all_found (grant_entry version) c.args.items.now grants c.loop-item.found.items c.loop-item.item-index same c.loop-item-test.false (c.loop-item.invariant.0 version grants all same)

pub returns-clause-whole : goal.returns-clause-whole
returns-clause-whole c = all_read entry_behind own_entry c.args.items.now c.loop-item.found.items c.loop-item.item-index c.loop-item-test.false c.loop-item.invariant.1
