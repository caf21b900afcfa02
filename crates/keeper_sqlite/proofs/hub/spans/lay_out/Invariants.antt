use Rattle.std.proofs.Common.{◌≡◌, ◌++◌, List, length, map}
use Rattle.std.specs.Vec.Iter.{into_iter_items, into_iter_len}
use Rattle.item_maps.specs.Edits.{entry_of}
use Rattle.hub_format.specs.Format.{Entry}
use Rattle.keeper_sqlite.specs.hub.Rows.{AreLaid}
use Rattle.keeper_sqlite.proofs.hub.spans.lay_out.Given as goal

abbrev pub invariant-loop-item : goal.invariant-loop-item
invariant-loop-item l = record {
  whole : l.yielded ++ into_iter_items l.item-iterator ≡ l.fn.items.items;
  left : into_iter_len l.item-iterator ≡ length (into_iter_items l.item-iterator);
  laid : (seen : List Entry) → AreLaid l.base seen l.fn.laid → AreLaid l.base (seen ++ map entry_of l.yielded) l.laid;
}
