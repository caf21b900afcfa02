use Rattle.std.proofs.Common.{◌≡◌, ◌+◌, ◌<◌, ◌≤◌, ℕ, ℤ, List, [], ◌∷◌, ◌++◌, None, length, map, unwrap_or, vec_capacity}
use Rattle.std.proofs.Common.{vec_len, sym, ap, subst, ◌∙◌, arith, rules}
use Rattle.std.specs.List.{AllByRecursion, AllWithin}
use Rattle.version_core.specs.Changes.{change_key}
use Rattle.version_core.specs.History.{AllHaveRoom, AreUpTo, Past, PutsRows, history_key, pasts_of}
use Rattle.version_core.specs.RefIndex.{IsIndexed}
use Rattle.version_core.specs.Since.{standing}
use Rattle.version_core.specs.VersionLog.{HasRoom, IsLog, IsVersionIndexed, kept_of, last_number, version_at}
use Rattle.version_core.specs.VersionLog.{versions_at}
use Rattle.version_core.specs.Version.{IsVersion, after, empty_version, last_or}
use Rattle.version_core.specs.declared.change.BaseVersion.{BaseVersion}
use Rattle.version_core.specs.declared.change.Change.{Change}
use Rattle.version_core.specs.declared.grant_row.GrantRow.{GrantRow}
use Rattle.version_core.specs.declared.history.History.{History}
use Rattle.version_core.specs.declared.ref_index.RefEntry.{RefEntry}
use Rattle.version_core.specs.declared.row_change.RowChange.{RowChange}
use Rattle.version_core.specs.declared.since.Since.{Since}
use Rattle.version_core.specs.declared.version_log.VersionLog.TheInside.{Inside}
use Rattle.version_core.proofs.AddLemmas.{length_map, versions_grown}
use Rattle.version_core.proofs.HistoryLemmas.{all_unmap}
use Rattle.version_core.proofs.IndexedVersions.{overlaid_indexed}
use Rattle.version_core.proofs.PutLemmas.{all_append}
use Rattle.version_core.proofs.ViewLemmas.{all_last, entries_later, last_version_at, up_to_later}
use Rattle.version_core.proofs.version_log.VersionLog.push.Goals.{After-into_vec}
use Rattle.version_core.proofs.version_log.VersionLog.push.Goals as goal

-- there is room for these rows
room_for : (c : After-into_vec) → HasRoom c.self.inside (map change_key c.args.change.rows)
room_for c = c.self.invariant.room (map change_key c.args.change.rows) (rw (← c.self.view_is) at c.requires.room)

pub put_rows-requires-clause-grown : goal.put_rows-requires-clause-grown
put_rows-requires-clause-grown c =
    let room = room_for (goal.at.put_rows-requires-clause-grown c).After-into_vec in
    subst (λ (rows : List RowChange). AllHaveRoom rows c.self.inside.histories.items) (sym c.into_vec.ensures.changes)
    (all_unmap (λ key. AllByRecursion (λ (history : History). history_key history ≡ key
    → vec_len history.entries < vec_capacity history.entries) c.self.inside.histories.items) change_key
    c.args.change.rows room.grown)

pub put_rows-requires-clause-room : goal.put_rows-requires-clause-room
put_rows-requires-clause-room c =
    let room = room_for (goal.at.put_rows-requires-clause-room c).After-into_vec in
    let len : vec_len c.into_vec.result ≡ length c.into_vec.result.items = search rules in
    omega (arith, room.histories, len, ap length c.into_vec.ensures.changes, length_map change_key c.args.change.rows)

pub put_rows-requires-clause-spare_room : goal.put_rows-requires-clause-spare_room
put_rows-requires-clause-spare_room c =
    let room = room_for (goal.at.put_rows-requires-clause-spare_room c).After-into_vec in
    let len : vec_len c.into_vec.result ≡ length c.into_vec.result.items = search rules in
    omega (arith, room.spare, len, ap length c.into_vec.ensures.changes, length_map change_key c.args.change.rows)

pub put_rows-requires-clause-some : goal.put_rows-requires-clause-some
put_rows-requires-clause-some c =
    let room = room_for (goal.at.put_rows-requires-clause-some c).After-into_vec in
    let len : vec_len c.into_vec.result ≡ length c.into_vec.result.items = search rules in
    omega (arith, room.fresh, len, ap length c.into_vec.ensures.changes, length_map change_key c.args.change.rows)

pub put_grants-requires : goal.put_grants-requires
put_grants-requires c = (room_for (goal.at.put_grants-requires c).After-into_vec).grants

pub push_reserved-requires : goal.push_reserved-requires
push_reserved-requires c = (room_for (goal.at.push_reserved-requires c).After-into_vec).moments

-- the number after the newest one
next_is : (table : Inside) (change : Change) → change.version ≡ (last_or empty_version (kept_of table)).number + 1 → change.version ≡ last_number table + 1
next_is table change next =
    let number = ap (λ (v : BaseVersion). v.number) (last_version_at (pasts_of table.histories.items) table.grants.items empty_version table.number table.moment table.moments.items) in
    let len : vec_len table.moments ≡ length table.moments.items = search rules in
    omega (arith, next, number, len)

last_is : (table : Inside) → last_number table ≡ table.number + length table.moments.items
last_is table = let len : vec_len table.moments ≡ length table.moments.items = search rules in omega (arith, len)

module _ (table : Inside) (is : IsLog table) (change : Change) (next : change.version ≡ last_number table + 1) (pasts' : List Past) (grants' : List (Since (List GrantRow))) (put : PutsRows change.version change.rows (pasts_of table.histories.items) pasts') (now : unwrap_or (standing change.version grants') [] ≡ unwrap_or change.grants (unwrap_or (standing change.version table.grants.items) [])) (earlier : (v : ℕ) → v < change.version → standing v grants' ≡ standing v table.grants.items) where
  pub grown : versions_at table.number (table.moment ∷ (table.moments.items ++ change.moment ∷ [])) pasts' grants' ≡ kept_of table ++ after (last_or empty_version (kept_of table)) change ∷ []
  grown = versions_grown table.number (last_number table) table.moment table.moments.items (pasts_of table.histories.items) pasts' table.grants.items grants' change (last_is table) next is.up_to is.grants put now earlier

  pub grown_are : IsVersion (after (last_or empty_version (kept_of table)) change) → AllByRecursion IsVersion (versions_at table.number (table.moment ∷ (table.moments.items ++ change.moment ∷ [])) pasts' grants')
  grown_are version = subst (AllByRecursion IsVersion) (sym grown) (all_append IsVersion (kept_of table) (after (last_or empty_version (kept_of table)) change ∷ []) is.versions (version, tt))

  pub grown_indexed : (runs : List (List RefEntry)) → AllByRecursion (IsVersionIndexed runs) (kept_of table) → AllWithin (λ row. IsIndexed runs row.row) change.rows 0 (length change.rows) → AllByRecursion (IsVersionIndexed runs) (versions_at table.number (table.moment ∷ (table.moments.items ++ change.moment ∷ [])) pasts' grants')
  grown_indexed runs before said =
      let last = all_last (IsVersionIndexed runs) (version_at table.number table.moment (pasts_of table.histories.items) table.grants.items) (versions_at (table.number + 1) table.moments.items (pasts_of table.histories.items) table.grants.items) before in
      subst (AllByRecursion (IsVersionIndexed runs)) (sym grown) (all_append (IsVersionIndexed runs) (kept_of table) (after (last_or empty_version (kept_of table)) change ∷ []) before (overlaid_indexed runs (last_or empty_version (kept_of table)).rows change.rows last said, tt))

  pub grown_up_to : AreUpTo change.version pasts'
  grown_up_to = put.up_to (up_to_later (last_number table) change.version (pasts_of table.histories.items) (omega (arith, next)) is.up_to)

pub invariant_of-self : goal.invariant_of-self
invariant_of-self c =
    let log = c.self.inside in
    let change = c.args.change in
    let items = c.push_reserved.ensures.items in
    let next = next_is log change (rw (← c.self.view_is) at c.requires.next) in
    let pasts' = pasts_of c.put_rows.new.histories.items in
    let grants' = c.put_grants.new.grants.items in
    let put = subst (λ (rows : List RowChange). PutsRows change.version rows (pasts_of log.histories.items) pasts') c.into_vec.ensures.changes c.put_rows.ensures.put in
    let number : change.version ≡ log.number + vec_len c.push_reserved.new.self = omega (arith, next, c.push_reserved.ensures.len) in
    record {
      versions = subst (λ (ms : List ℤ). AllByRecursion IsVersion (versions_at log.number (log.moment ∷ ms) pasts' grants')) (sym items) (grown_are log c.self.invariant change next pasts' grants' put c.put_grants.ensures.now c.put_grants.ensures.earlier (rw (← c.self.view_is) at c.requires.version));
      pasts = put.pasts;
      up_to = subst (λ k. AreUpTo k pasts') number (grown_up_to log c.self.invariant change next pasts' grants' put c.put_grants.ensures.now c.put_grants.ensures.earlier);
      grants = subst (λ k. AllByRecursion (λ (e : Since (List GrantRow)). e.version ≤ k) grants') number (c.put_grants.ensures.up_to (entries_later (last_number log) change.version log.grants.items (omega (arith, next)) c.self.invariant.grants));
      spare = c.put_rows.ensures.spare;
      fresh = c.put_rows.ensures.fresh;
      room = λ keys none. cc;
      index = λ on.
          let said = subst (λ (rows : List RowChange). AllWithin (λ change. IsIndexed log.refs.items change.row) rows 0 (length rows)) c.as_slice.ensures.changes (rw c.deref.ensures.value at c.stay_indexed-self-inside.ensures.now on) in
          let before = c.self.invariant.index (c.stay_indexed-self-inside.ensures.before on) in
          subst (λ (ms : List ℤ). AllByRecursion (IsVersionIndexed log.refs.items) (versions_at log.number (log.moment ∷ ms) pasts' grants')) (sym items) (grown_indexed log c.self.invariant change next pasts' grants' put c.put_grants.ensures.now c.put_grants.ensures.earlier log.refs.items before said);
    }

pub returns : goal.returns
returns c =
    let log = c.self.inside in
    let change = c.args.change in
    let next = next_is log change (rw (← c.self.view_is) at c.requires.next) in
    let pasts' = pasts_of c.put_rows.new.histories.items in
    let grants' = c.put_grants.new.grants.items in
    let put = subst (λ (rows : List RowChange). PutsRows change.version rows (pasts_of log.histories.items) pasts') c.into_vec.ensures.changes c.put_rows.ensures.put in
    rw (← c.self.view_is)
    (ap (λ (ms : List ℤ). record { versions = versions_at log.number (log.moment ∷ ms) pasts' grants'; room = None }) c.push_reserved.ensures.items
    ∙ ap (λ (vs : List BaseVersion). record { versions = vs; room = None }) (grown log c.self.invariant change next pasts' grants' put c.put_grants.ensures.now c.put_grants.ensures.earlier))
