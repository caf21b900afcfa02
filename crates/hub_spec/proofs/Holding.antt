-- What a version holds that a step leads to are rows, as in the version before.
use Rattle.std.proofs.Common.{◌≡◌, ℕ, ℤ, suc, ◌+◌, ◌<◌, ◌==◌, inl, inr, Bool, true, false, cond, List, [], ◌∷◌, Option}
use Rattle.std.proofs.Common.{Some, None, Result, Ok, Err, get_or, length, refl, sym, subst, arith}
use Rattle.std.proofs.lemmas.Cmp.{tied_itself}
use Rattle.std.specs.List.{AllByRecursion, list_all}
use Rattle.std.specs.Ordering.{is_eq}
use Rattle.std.specs.Prelude.{slice_index_or}
use Rattle.std.specs.declared.cmp.Ordering.TheVariants.{Equal, Greater, Less}
use Rattle.rest_paths.specs.Paths.{IsPath, PathParts}
use Rattle.rest_paths.specs.Routes.{objects_in}
use Rattle.rest_paths.specs.declared.route.Route.{Route}
use Rattle.rest_paths.specs.declared.route.Route.TheVariants as route
use Rattle.row_json.proofs.PutRows.{put_row}
use Rattle.hub_spec.specs.rules.Marked.{same_write}
use Rattle.row_json.specs.Puts.{put_of}
use Rattle.hub_spec.specs.rules.Refusals.{delete_refusal, put_refusal, stored_at}
use Rattle.hub_spec.specs.rules.States.{HoldsRows, ListsRows}
use Rattle.hub_spec.specs.rules.Verdicts.{BodyJudged, Judged, Leads, NewJudged, PutJudged, PutMakes, Refused, Repeat}
use Rattle.hub_spec.specs.rules.Verdicts.{Same, delete_judged, delete_makes, leads_with}
use Rattle.hub_spec.specs.rules.Wanted.{takes_writes, takes_writes_at}
use Rattle.hub_spec.specs.views.Lists.{id_at}
use Rattle.reference_rules.proofs.KeyOrder.{and_first, key_total}
use Rattle.roster_base.specs.Moments.{IsMoment}
use Rattle.roster_texts.specs.Texts.{is_id}
use Rattle.roster_types.proofs.Dates.{IsRow-changed}
use Rattle.roster_types.specs.Keys.{Ascends, Key, key_cmp, look_up}
use Rattle.roster_types.specs.Records.{Record}
use Rattle.roster_types.specs.Rows.{IsRow}
use Rattle.roster_types.specs.Sets.{SetRecord}
use Rattle.roster_types.specs.declared.owner.Owner.TheVariants.{Caller}
use Rattle.roster_types.specs.declared.set_row.SetRow.{SetRow}
use Rattle.roster_types.specs.declared.status.Status.TheVariants.{ToBeDeleted}
use Rattle.row_json.specs.declared.fault.JsonFault.{JsonFault}
use Rattle.version_changes.specs.sets.Applying as applying
use Rattle.version_changes.specs.sets.Applying.{Applies, Becomes, Listed, dated, is_active, is_left_out, marked}
use Rattle.version_changes.specs.sets.Applying.{rows_in, set_key, unlisted}
use Rattle.version_core.proofs.Places.{look_up-at}
use Rattle.version_core.specs.Changes.{change_key}
use Rattle.version_core.specs.Order.{by_order, put}
use Rattle.version_core.specs.Outcomes.{last_version_outcome, mark_taken_outcome}
use Rattle.version_core.specs.Version.{empty_version, last_or, last_version}
use Rattle.version_core.specs.declared.change.BaseVersion.{BaseVersion}
use Rattle.version_core.specs.declared.grant_row.GrantRow.{GrantRow}
use Rattle.version_core.specs.declared.mark.MarkRow.{MarkRow}
use Rattle.version_core.specs.declared.mark.Write.{Write}
use Rattle.version_core.specs.declared.row_change.RowChange.{RowChange}

-- ---- lists of items with keys

found_is : {X : Type 0} (P : X → Type 0) (key : X → Key) (k : Key) (xs : List X) (x : X) → AllByRecursion P xs → look_up key k xs ≡ Some x → P x
found_is P key k [] x all e = cc
found_is P key k (y ∷ ys) x all e =
    elim (is_eq (key_cmp k (key y))) as (λ b. cond b (Some y) (look_up key k ys) ≡ Some x → P x) [
      | true ↦ λ is. let same : y ≡ x = cc in subst P same all.0
      | false ↦ λ later. found_is P key k ys x all.1 later
    ] e

at_each : {X : Type 0} (P : X → Type 0) (xs : List X) → ((i : ℕ) (d : X) → i < length xs → P (get_or xs i d)) → AllByRecursion P xs
at_each P [] each = tt
at_each P (x ∷ xs) each = (each 0 x (omega arith), at_each P xs (λ i d less. each (suc i) d (omega arith)))

-- what each item is that is found, all are
from_found : {X : Type 0} (P : X → Type 0) (key : X → Key) (xs : List X) → Ascends key xs → ((k : Key) (x : X) → look_up key k xs ≡ Some x → P x) → AllByRecursion P xs
from_found P key xs up each = at_each P xs (λ i d less. each (key (get_or xs i d)) (get_or xs i d) (look_up-at key xs (key (get_or xs i d)) i d up less (tied_itself key_total (key (get_or xs i d)))))

all_put : {X : Type 0} (P : X → Type 0) (key : X → Key) (x : X) (ys : List X) → AllByRecursion P ys → P x → AllByRecursion P (put key x ys)
all_put P key x [] all here = (here, tt)
all_put P key x (y ∷ ys) all here =
    elim (key_cmp (key x) (key y)) as (λ o. AllByRecursion P (by_order o (x ∷ y ∷ ys) (x ∷ ys) (y ∷ put key x ys))) [
      | Less ↦ (here, all)
      | Equal ↦ (here, all.1)
      | Greater ↦ (all.0, all_put P key x ys all.1 here)
    ]

-- ---- a row with another date
row_dated : (row : Record) (at : ℤ) → IsMoment at → IsRow row → IsRow (dated at row)
row_dated row at moment held = IsRow-changed row row.status at moment held

-- ---- sets

listed_row : (feed : List ℕ) (at : ℤ) (brings_date : Bool) (row : Record) (stored : Option RowChange) (new : RowChange) → IsMoment at → IsRow row
    → ((s : RowChange) → stored ≡ Some s → IsRow s.row) → Listed feed at brings_date row stored new → IsRow new.row
listed_row feed at true row stored new moment held old listed = subst (λ (c : RowChange). IsRow c.row) (sym listed) held
listed_row feed at false row None new moment held old listed = subst (λ (c : RowChange). IsRow c.row) (sym listed) (row_dated row at moment held)
listed_row feed at false row (Some s) new moment held old (inl same) = subst (λ (c : RowChange). IsRow c.row) (sym same.1) (old s refl)
listed_row feed at false row (Some s) new moment held old (inr differs) = subst (λ (c : RowChange). IsRow c.row) (sym differs.1) (row_dated row at moment held)

unlisted_row : (set : SetRecord) (at : ℤ) (stored : RowChange) → IsMoment at → IsRow stored.row → IsRow (unlisted set at stored).row
unlisted_row set at stored moment held =
    elim (is_left_out set stored) as (λ b. IsRow (cond b (marked at stored) stored).row) [ true ↦ IsRow-changed stored.row ToBeDeleted at moment held | false ↦ held ]

becomes_row : (set : SetRecord) (at : ℤ) (listed : Option SetRow) (stored : Option RowChange) (new : RowChange) → IsMoment at
    → ((l : SetRow) → listed ≡ Some l → IsRow l.row) → ((s : RowChange) → stored ≡ Some s → IsRow s.row) → Becomes set at listed stored (Some new) → IsRow new.row
becomes_row set at None None new moment lists old becomes = cc
becomes_row set at None (Some s) new moment lists old becomes =
    let same : unlisted set at s ≡ new = cc in subst (λ (c : RowChange). IsRow c.row) same (unlisted_row set at s moment (old s refl))
becomes_row set at (Some l) stored new moment lists old becomes = listed_row set.feed at l.dated l.row stored new moment (lists l refl) old becomes

pub set_holds : (version : BaseVersion) (set : SetRecord) (at : ℤ) (next : BaseVersion) → IsMoment at → ListsRows set → HoldsRows version → Applies version set at (applying.Leads next) → HoldsRows next
set_holds version set at next moment lists old applies =
    let new = applies.0 in
    let held : AllByRecursion (λ (c : RowChange). IsRow c.row) new =
    from_found (λ (c : RowChange). IsRow c.row) change_key new applies.1.order (λ k c found.
    becomes_row set at (look_up set_key k (rows_in set)) (look_up change_key k version.rows) c moment
    (λ l e. found_is (λ (l : SetRow). IsRow l.row) set_key k (rows_in set) l lists e)
    (λ s e. found_is (λ (c : RowChange). IsRow c.row) change_key k version.rows s old e)
    (subst (λ o. Becomes set at (look_up set_key k (rows_in set)) (look_up change_key k version.rows) o) found (applies.1.entries k))) in
    subst HoldsRows (sym applies.2.2) held

-- ---- writes

-- the path of a write names one object, whose id is good
write_id : (r : Route) (ids : List (List ℕ)) → takes_writes_at r ≡ true → length ids ≡ length (objects_in r) → list_all is_id ids ≡ true → is_id (slice_index_or ids 0 []) ≡ true
write_id (route.One c) [] takes count good = absurd (omega arith)
write_id (route.One c) (id ∷ ids) takes count good = and_first (is_id id) _ good
write_id _ ids takes count good = cc

pub path_id : (path : PathParts) → IsPath path → takes_writes path ≡ true → is_id (id_at path 0) ≡ true
path_id path is takes = write_id path.route path.ids takes is.objects is.ids

module _ (newest : BaseVersion) (old : HoldsRows newest) (by : GrantRow) (write : Write) (at : ℤ) (moment : IsMoment at) (next : BaseVersion) where
  leads_holds : (change : RowChange) → IsRow change.row → leads_with newest at change ≡ Leads next → HoldsRows next
  leads_holds change held e =
      let made : BaseVersion = record newest { number = newest.number + 1; moment = at; rows = put change_key change newest.rows } in
      elim (newest.number == last_version) as (λ b. cond b (Refused last_version_outcome) (Leads made) ≡ Leads next → HoldsRows next) [
        | true ↦ λ e. cc
        | false ↦ λ e. let same : made ≡ next = cc in subst HoldsRows same (all_put (λ (c : RowChange). IsRow c.row) change_key change newest.rows old held)
      ] e

  stored_row : (s : RowChange) → stored_at newest write ≡ Some s → IsRow s.row
  stored_row s e = found_is (λ (c : RowChange). IsRow c.row) change_key _ newest.rows s old e

  delete_holds : (stored : Option RowChange) → stored_at newest write ≡ stored → delete_makes newest at stored ≡ Leads next → HoldsRows next
  delete_holds None found e = cc
  delete_holds (Some s) found e =
      elim (is_active s.row.status) as (λ b. cond b (leads_with newest at (marked at s)) Same ≡ Leads next → HoldsRows next) [
        | true ↦ λ e. leads_holds (marked at s) (IsRow-changed s.row ToBeDeleted at moment (stored_row s found)) e
        | false ↦ λ e. cc
      ] e

  delete_judged_holds : (o : Option ℕ) → delete_judged newest write at o ≡ Leads next → HoldsRows next
  delete_judged_holds (Some n) e = cc
  delete_judged_holds None e = delete_holds (stored_at newest write) refl e

  put_holds : (change : RowChange) (stored : Option RowChange) → IsRow change.row → PutMakes newest at change stored (Leads next) → HoldsRows next
  put_holds change None held makes = leads_holds change held (sym makes)
  put_holds change (Some s) held (inl same) = absurd (let e = same.1 in cc)
  put_holds change (Some s) held (inr differs) = leads_holds change held (sym differs.1)

  row_holds : (row : Record) (o : Option ℕ) → IsRow row → PutJudged newest by write at row o (Leads next) → HoldsRows next
  row_holds row (Some n) held judged = cc
  row_holds row None held judged = put_holds (record { row = row; owner = Caller by.caller }) (stored_at newest write) held judged

  module _ (good : write.delete ≡ false → is_id write.id ≡ true) where
    body_holds : (r : Result Record JsonFault) → write.delete ≡ false → put_of write.kind write.id at write.body ≡ r → BodyJudged newest by write at r (Leads next) → HoldsRows next
    body_holds (Err fault) puts read judged = cc
    body_holds (Ok row) puts read judged = row_holds row (put_refusal newest by write row) (put_row write.kind write.id at (good puts) moment write.body row read) judged

    new_holds : (b : Bool) → write.delete ≡ b → NewJudged b newest by write at (Leads next) → HoldsRows next
    new_holds true is judged = delete_judged_holds (delete_refusal newest by write) (sym judged)
    new_holds false is judged = body_holds (put_of write.kind write.id at write.body) is refl judged

    pub judged_holds : (o : Option MarkRow) → Judged o newest by write at (Leads next) → HoldsRows next
    judged_holds (Some held) judged = elim (same_write held.write write) as (λ b. Leads next ≡ cond b (Repeat held.kept) (Refused mark_taken_outcome) → HoldsRows next) [ true ↦ λ e. cc | false ↦ λ e. cc ] judged
    judged_holds None judged = new_holds write.delete refl judged

-- ---- the newest of some versions

pub newest_holds : (versions : List BaseVersion) → AllByRecursion HoldsRows versions → HoldsRows (last_or empty_version versions)
newest_holds versions all = last_holds empty_version versions tt all
  where
    last_holds : (first : BaseVersion) (versions : List BaseVersion) → HoldsRows first → AllByRecursion HoldsRows versions → HoldsRows (last_or first versions)
    last_holds first [] holds all = holds
    last_holds first (v ∷ vs) holds all = last_holds v vs all.0 all.1
