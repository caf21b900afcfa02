use Rattle.std.proofs.Common.{◌≡◌, ◌+◌, ◌-◌, ◌^◌, ◌<◌, ◌≤◌, [], List, true, drop, length, map, take}
use Rattle.consumer_deltas.proofs.DeltaStageLemmas.{Sofar}
use Rattle.consumer_sync.specs.Judging.{kind_done}
use Rattle.exchange_link.specs.Places.{IsStaged, kinds_of, last_of, staged_of}
use Rattle.keeper_memory.specs.copy.Copies.{Copy}
use Rattle.keeper_memory.specs.copy.Lists.{ascends}
use Rattle.roster_types.specs.Records.{Record}
use Rattle.consumer_deltas.proofs.staged.stage_rows.Given as goal

-- the rows so far are staged, and the others follow them
abbrev pub invariant-pages : goal.invariant-pages
invariant-pages g l =
    let S = g.C.CopyKeeper.stands_for in
    let all : List Record = map (λ row. row.now) l.behind in
    record {
      within : l.from ≤ length l.behind;
      holds : IsStaged (S l.copy) l.stage;
      ended : kind_done l.stage l.list.pin l.list.token.now ≡ kind_done l.fn.stage l.list.pin l.list.token.now;
      kinds : kinds_of l.stage ≡ kinds_of l.fn.stage;
      up : ascends (last_of l.stage) (drop l.from all) ≡ true;
      few : staged_of l.stage + (length l.behind - l.from) < 2 ^ 64;
      copy : (after : Copy) → S l.copy after → (before : Copy) × S l.fn.copy before
          × Sofar (record { pin = l.list.pin; rows = all; total = l.list.total; done = true }) l.list.token.now (take l.from all) before after;
      later : g.C.CopyKeeper.fault_count l.fn.copy ≤ g.C.CopyKeeper.fault_count l.copy;
      copy_leads : g.C.CopyKeeper.leads l.fn.copy l.copy;
    }

abbrev pub decreases-pages : goal.decreases-pages
decreases-pages g l = length l.behind - l.from
