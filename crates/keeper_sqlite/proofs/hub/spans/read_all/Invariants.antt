use Rattle.std.proofs.Common.{◌≡◌, ◌++◌, [], List, false}
use Rattle.item_maps.specs.Items.{Items, listed}
use Rattle.hub_format.specs.Format.{Entry}
use Rattle.keeper_sqlite.specs.Rest.{rest_of}
use Rattle.keeper_sqlite.specs.hub.Keeping.{Stay}
use Rattle.keeper_sqlite.specs.hub.Rows.{AreRead}
use Rattle.keeper_sqlite.proofs.hub.spans.read_all.Given as goal
use Rattle.hub_format.specs.Areas.{spans_area}
use Rattle.hub_format.specs.Pieces.{labels_end}

abbrev pub invariant-pieces : goal.invariant-pieces
invariant-pieces g l =
    let s = g.S.StoredItems in
    record {
      same : Stay (s.stands_for l.fn.store) (s.stands_for l.store);
      trust : s.is_trusted l.store → s.is_trusted l.fn.store;
      held : Stay (s.may_hold l.store) (s.may_hold l.fn.store);
      signs : Stay (s.shows l.store) (s.shows l.fn.store);
      faults : s.fault_count l.store ≡ s.fault_count l.fn.store;
      going : l.rest.is_over ≡ false;
      read : (m : Items) → s.stands_for l.fn.store m → s.is_trusted l.store → AreRead l.base [] l.fn.read.rows.items l.fn.read.later
          → (seen : List Entry) × (seen ++ rest_of l.rest m ≡ listed spans_area [] labels_end m) × AreRead l.base seen l.read.rows.items l.read.later;
    }
