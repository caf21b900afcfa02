use Rattle.std.proofs.Common.{◌≡◌, List, ℕ, [], ◌∷◌, ◌++◌, drop, map, sym, ap, ◌∙◌}
use Rattle.item_maps.specs.declared.item.Item.{Item}
use Rattle.version_core.specs.Changes.{change_key}
use Rattle.version_core.specs.declared.row_change.RowChange.{RowChange}
use Rattle.hub_format.specs.Format.{row_entry}
use Rattle.hub_format.specs.Pieces.{IsReadBack, key_label}
use Rattle.hub_format.proofs.ItemLists.{all_found, all_read, more_read, value_at}
use Rattle.hub_format.proofs.read_rows.rows_of.Goals as goal

abbrev label_behind : ℕ → Item → List ℕ
label_behind skip item = drop skip item.label

abbrev label_of : RowChange → List ℕ
label_of row = key_label (change_key row)

pub loop-item-preserved : goal.loop-item-preserved
loop-item-preserved c =
    let key : label_behind c.args.skip c.item-item.result ≡ label_of c.in-Some.row = rw c.in-Some.is at c.in_ok-row.ensures.key in
    let keys = more_read (label_behind c.args.skip) label_of c.args.items.now c.loop-item.found.items c.loop-item.item-index c.item-item.result c.in-Some.row c.loop-item.invariant.1 c.loop-item-test.true c.item-item.is key in (
      (λ prefix rows long all same.
          let there = value_at (row_entry prefix) IsReadBack c.args.items.now rows c.loop-item.item-index c.item-item.result same all c.loop-item-test.true c.item-item.is in
          let row : c.in-Some.row ≡ there.0 = rw c.in-Some.is at (c.in_ok-row.ensures.found prefix there.0 long there.1 there.2) in
          let so_far = c.loop-item.invariant.0 prefix rows long all same in
          c.in_ok-push.ensures.items ∙ (λ i. so_far i ++ row i ∷ []) ∙ sym there.3),
      keys ∙ ap (map label_of) (sym c.in_ok-push.ensures.items),
    )

pub returns-clause-found : goal.returns-clause-found
returns-clause-found c prefix rows long all same = all_found (row_entry prefix) c.args.items.now rows c.loop-item.found.items c.loop-item.item-index same c.loop-item-test.false (c.loop-item.invariant.0 prefix rows long all same)

pub returns-clause-keys : goal.returns-clause-keys
returns-clause-keys c = all_read (label_behind c.args.skip) label_of c.args.items.now c.loop-item.found.items c.loop-item.item-index c.loop-item-test.false c.loop-item.invariant.1
