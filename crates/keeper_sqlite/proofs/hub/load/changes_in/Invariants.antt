use Rattle.std.proofs.Common.{◌≡◌, ◌≤◌, length, take}
use Rattle.version_core.specs.declared.hub_tables.HubTables.{HubTables}
use Rattle.keeper_sqlite.specs.hub.Keeping.{Stay}
use Rattle.keeper_sqlite.specs.hub.Rows.{HasChanges, TellLater}
use Rattle.keeper_sqlite.proofs.hub.load.changes_in.Given as goal

abbrev pub invariant-loop-place : goal.invariant-loop-place
invariant-loop-place g l =
    let s = g.S.StoredItems in
    record {
      same : Stay (s.stands_for l.fn.store) (s.stands_for l.store);
      trust : s.is_trusted l.store → s.is_trusted l.fn.store;
      held : Stay (s.may_hold l.store) (s.may_hold l.fn.store);
      signs : Stay (s.shows l.store) (s.shows l.fn.store);
      faults : s.fault_count l.store ≡ s.fault_count l.fn.store;
      found : (t : HubTables) → HasChanges (s.stands_for l.fn.store) (TellLater l.later) t → l.base ≡ t.base.number → s.is_trusted l.store → (l.found.items ≡ take l.place t.changes) × (l.place ≤ length t.changes);
    }
