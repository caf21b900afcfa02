-- What edits make of items.
use Rattle.std.specs.Prelude.{ℕ, List, [], ◌∷◌}
use Rattle.item_maps.specs.Items.{Items, put, cleared}
use Rattle.item_maps.specs.declared.item.Item.{Item}
use Rattle.item_maps.specs.declared.item.Edit.{Edit}
use Rattle.item_maps.specs.declared.item.Edit.TheVariants as edit

-- the items behind one edit
abbrev pub after_edit : Edit → Items → Items
after_edit (edit.Put area label body) m = put area label body m
after_edit (edit.Clear area from to) m = cleared area from to m

-- the items behind edits, which are made in order
abbrev pub after : List Edit → Items → Items
after [] m = m
after (e ∷ es) m = after es (after_edit e m)

-- an item's label and its body
abbrev pub entry_of : Item → List ℕ × List ℕ
entry_of item = (item.label, item.body)
