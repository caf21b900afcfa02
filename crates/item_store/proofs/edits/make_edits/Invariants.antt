use Rattle.std.proofs.Common.{◌≡◌, drop, List}
use Rattle.sqlite.specs.Held.{state}
use Rattle.sqlite.specs.State.{HasCleanDisk}
use Rattle.item_store.specs.Asked.{Leads}
use Rattle.item_maps.specs.Items.{Items}
use Rattle.item_store.specs.Left.{Lasts, WasOpen}
use Rattle.item_store.specs.Stands.{IsWithin, Earlier}
use Rattle.item_maps.specs.Edits.{after}
use Rattle.item_store.proofs.LeftLemmas.{LeavesNothing}
use Rattle.item_store.proofs.edits.make_edits.Given as goal

-- the edits that are left lead from the items so far to those after all, all statements so far were run, and a stop leaves
-- nothing new
abbrev pub invariant-loop-edit : goal.invariant-loop-edit
invariant-loop-edit g l =
    let first = state g.S.Store l.fn.conn in
    let now = state g.S.Store l.conn in
    Earlier first now × ((base m : Items) → IsWithin first base m → (n : Items) × IsWithin now base n × (after (drop l.edit-index l.edits) n ≡ after l.fn.edits m))
    × (HasCleanDisk now → (between : List _) × Leads (state g.S.Store) between l.fn.conn l.conn)
    × ((base m : Items) → IsWithin first base m → LeavesNothing first now) × WasOpen first now × Lasts first now
