use Rattle.std.proofs.Common.{◌≡◌, ◌<◌, List, length, map, vec_capacity, vec_len, sym, ap, subst, ◌∙◌}
use Rattle.std.proofs.Common.{arith}
use Rattle.std.specs.List.{AllByRecursion}
use Rattle.roster_types.specs.Keys.{Key}
use Rattle.version_core.specs.Changes.{change_key}
use Rattle.version_core.specs.History.{history_key}
use Rattle.version_core.specs.Room.{key_of}
use Rattle.version_core.specs.VersionLog.{IsVersionIndexed, kept_of}
use Rattle.version_core.specs.declared.history.History.{History}
use Rattle.version_core.proofs.AddLemmas.{length_map}
use Rattle.version_core.proofs.HistoryLemmas.{all_map}
use Rattle.version_core.proofs.IndexedVersions.{versions_stay}
use Rattle.version_core.proofs.MovedLists.{moved}
use Rattle.version_core.proofs.version_log.VersionLog.reserve.Goals as goal

-- the same versions, and an index that still has all
pub invariant_of-self-in_err-note : goal.invariant_of-self-in_err-note
invariant_of-self-in_err-note c =
    let table = c.self.inside in
    record {
      versions = c.self.invariant.versions;
      pasts = c.self.invariant.pasts;
      up_to = c.self.invariant.up_to;
      grants = c.self.invariant.grants;
      spare = c.self.invariant.spare;
      fresh = c.self.invariant.fresh;
      index = λ on. versions_stay table.refs.items c.note.new.runs.items c.note.ensures (kept_of table) (c.self.invariant.index on);
      room = λ keys none. cc;
    }

-- the same versions
pub invariant_of-self-in_err-make_room : goal.invariant_of-self-in_err-make_room
invariant_of-self-in_err-make_room c =
    let table = c.self.inside in
    let e = c.make_room.ensures in
    let kept = moved c.self.invariant e.moments e.moments_len e.histories e.grants in
    record {
      versions = kept.versions;
      pasts = kept.pasts;
      up_to = kept.up_to;
      grants = kept.grants;
      spare = e.spare ∙ c.self.invariant.spare;
      fresh = e.fresh;
      index = λ on. subst (AllByRecursion (IsVersionIndexed c.note.new.runs.items)) kept.same (versions_stay table.refs.items c.note.new.runs.items c.note.ensures (kept_of table) (c.self.invariant.index on));
      room = λ keys none. cc;
    }

-- the same versions, with room
pub invariant_of-self-2 : goal.invariant_of-self-2
invariant_of-self-2 c =
    let table = c.self.inside in
    let e = c.make_room.ensures in
    let ok = c.in_ok-make_room.ensures in
    let changes = c.as_slice-changes.result.now in
    let histories = c.make_room.new.histories.items in
    let kept = moved c.self.invariant e.moments e.moments_len e.histories e.grants in
    record {
      versions = kept.versions;
      pasts = kept.pasts;
      up_to = kept.up_to;
      grants = kept.grants;
      spare = e.spare ∙ c.self.invariant.spare;
      fresh = e.fresh;
      index = λ on. subst (AllByRecursion (IsVersionIndexed c.note.new.runs.items)) kept.same (versions_stay table.refs.items c.note.new.runs.items c.note.ensures (kept_of table) (c.self.invariant.index on));
      room = λ (keys : List Key) some.
          let given : map key_of c.in_ok-keys.keys.items ≡ keys = cc in
          let are : map change_key changes ≡ keys = sym c.in_ok-keys.ensures ∙ given in
          let count = length_map change_key changes in
          let len = ap length are in
          let HasSpace : Key → Type 0 = λ key. AllByRecursion (λ (history : History). history_key history ≡ key → vec_len history.entries < vec_capacity history.entries) histories in
          record {
            moments = ok.moments_room;
            grants = ok.grants_room;
            histories = omega (arith, ok.histories_room, len, count);
            spare = omega (arith, ok.spare_room, len, count);
            fresh = omega (arith, ok.fresh_len, len, count);
            grown = subst (AllByRecursion HasSpace) are (all_map HasSpace change_key changes ok.grown);
          };
    }
