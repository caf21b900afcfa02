-- A verdict leads to a version that may stand behind the newest, and what is kept of it is a mark that may be held.
use Rattle.std.proofs.Common.{◌≡◌, ℕ, ℤ, ◌+◌, ◌<◌, ◌≤◌, inl, inr, Bool, true, false, ◌&&◌, ◌==◌, not, cond, List, []}
use Rattle.std.proofs.Common.{◌∷◌, Option, None, Some, Result, Ok, Err, is_some, bytes_eq, codes, count_by, nat_lt}
use Rattle.std.proofs.Common.{refl, sym, ap, subst, ◌∙◌, arith}
use Rattle.std.proofs.lemmas.Bool.Decides.{nat_tests}
use Rattle.std.proofs.lemmas.List.Sums.{sum_by-cons}
use Rattle.serde_json.specs.Data.{Data}
use Rattle.version_changes.proofs.Following.{same_grants}
use Rattle.hub_spec.specs.rules.Marked.{same_write}
use Rattle.row_json.proofs.PutRows.{both_gave}
use Rattle.row_json.specs.Puts.{id_field, member_value, put_in, put_of, put_under, status_field, unless_other}
use Rattle.version_changes.specs.grants.Next.{IsNext}
use Rattle.hub_spec.specs.rules.Refusals.{delete_refusal, first_of, has_grading_period, is_of_other, is_one_too_many}
use Rattle.hub_spec.specs.rules.Refusals.{is_within, put_refusal, refused_if, stored_at}
use Rattle.hub_spec.specs.rules.Verdicts.{BodyJudged, Judged, Leads, NewJudged, PutJudged, PutMakes, Refused, Repeat}
use Rattle.hub_spec.specs.rules.Verdicts.{Same, delete_judged, delete_makes, leads_with}
use Rattle.reference_rules.proofs.KeyOrder.{and_first, found_key}
use Rattle.roster_base.specs.Reading.{◌>>=◌}
use Rattle.roster_types.specs.Keys.{Key, count_of, is_of_kind, look_up}
use Rattle.roster_types.specs.Lengths.{row_length}
use Rattle.roster_types.specs.Records.{Record, id_in, record_from}
use Rattle.roster_types.specs.Rows.{longest, row_from}
use Rattle.roster_types.specs.declared.metadata.Entry.{Entry}
use Rattle.roster_types.specs.declared.owner.Owner.TheVariants.{Caller}
use Rattle.roster_values.specs.declared.value.Value.{Value}
use Rattle.roster_values.specs.declared.value.Value.TheVariants.{Id, Moment}
use Rattle.roster_values.specs.Kinds.{single_of}
use Rattle.row_json.specs.Reading.{data_of, in_member, metadata_in, object_under, unless_long, values_in}
use Rattle.roster_types.specs.Shapes.{own_fields}
use Rattle.roster_values.specs.Table.{common_fields}
use Rattle.roster_values.specs.declared.mode.Mode.TheVariants.{Bulk}
use Rattle.row_json.specs.declared.fault.JsonFault.TheVariants.{OtherId}
use Rattle.serde_json.specs.Find.{get}
use Rattle.roster_values.specs.Kinds.{place_of_kind}
use Rattle.roster_values.specs.declared.kind.Kind.{Kind}
use Rattle.row_json.specs.declared.fault.JsonFault.{JsonFault}
use Rattle.version_changes.proofs.CountLemmas.{count-overlaid}
use Rattle.version_changes.specs.sets.Applying.{is_active, marked}
use Rattle.version_changes.specs.sets.Steps.{added, is_added}
use Rattle.version_core.proofs.GrantLemmas.{AreGrants-later}
use Rattle.version_core.proofs.OrderLemmas.{Ascends-put}
use Rattle.version_core.specs.Changes.{change_key, rows_of}
use Rattle.version_core.specs.Order.{put}
use Rattle.version_core.specs.Outcomes.{last_version_outcome, mark_taken_outcome}
use Rattle.version_core.specs.Version.{IsVersion, last_version, row_limit}
use Rattle.version_core.specs.declared.change.BaseVersion.{BaseVersion}
use Rattle.version_core.specs.declared.grant_row.GrantRow.{GrantRow}
use Rattle.version_core.specs.declared.mark.MarkRow.{MarkRow}
use Rattle.version_core.specs.declared.mark.Write.{Write}
use Rattle.version_core.specs.declared.row_change.RowChange.{RowChange}

-- from one reading to the next, both gave something
bind_ok : {A B F : Type 0} (r : Result A F) (f : A → Result B F) (y : B) → (r >>= f) ≡ Ok y → (x : A) × (f x ≡ Ok y)
bind_ok (Ok x) f y e = (x, e)
bind_ok (Err fault) f y e = cc

fourth : (a b c d : Option ℕ) → first_of (a ∷ b ∷ c ∷ d ∷ []) ≡ None → d ≡ None
fourth None None None None e = refl
fourth None None None (Some n) e = e
fourth None None (Some n) d e = cc
fourth None (Some n) c d e = cc
fourth (Some n) b c d e = cc

passed : (b : Bool) (n : ℕ) → refused_if b n ≡ None → b ≡ false
passed true n e = cc
passed false n e = refl

-- there is room for the change, where it adds a row
abbrev HasRoom : BaseVersion → RowChange → Type 0
HasRoom newest change = (kind : Kind) → is_added kind newest.rows change ≡ true → count_of kind (rows_of newest.rows) < row_limit

module _ (newest : BaseVersion) (is : IsVersion newest) (at : ℤ) where
  few_after : (change : RowChange) → HasRoom newest change → (kind : Kind) → count_of kind (rows_of (put change_key change newest.rows)) ≤ row_limit
  few_after change room kind =
      let counted : count_of kind (rows_of (put change_key change newest.rows)) ≡ count_of kind (rows_of newest.rows) + added kind newest.rows (change ∷ []) = count-overlaid kind newest.rows (change ∷ []) is.rows refl in
      let few = is.few kind in
      let single : added kind newest.rows (change ∷ []) ≡ cond (is_added kind newest.rows change) 1 0 + 0 = sum_by-cons (λ c. cond (is_added kind newest.rows c) 1 0) change [] in
      elim (is_added kind newest.rows change) as (λ b. is_added kind newest.rows change ≡ b → count_of kind (rows_of (put change_key change newest.rows)) ≤ row_limit) [
        | true ↦ λ new. let room_here = room kind new in let one : added kind newest.rows (change ∷ []) ≡ 1 + 0 = single ∙ ap (λ b. cond b 1 0 + 0) new in omega arith
        | false ↦ λ old. let none : added kind newest.rows (change ∷ []) ≡ 0 + 0 = single ∙ ap (λ b. cond b 1 0 + 0) old in omega arith
      ] refl

  -- a change that is due leads to a version that may stand
  led : (change : RowChange) (next : BaseVersion) → HasRoom newest change → leads_with newest at change ≡ Leads next → IsNext newest next
  led change next room e =
      elim (newest.number == last_version) as (λ b. (newest.number == last_version) ≡ b → cond b (Refused last_version_outcome) (Leads (record newest { number = newest.number + 1; moment = at; rows = put change_key change newest.rows })) ≡ Leads next → IsNext newest next) [
        | true ↦ λ _ e. cc
        | false ↦ λ below e.
            let small = is.number in
            let apart : newest.number < last_version = grind (arith, nat_tests) in
            let same : record newest { number = newest.number + 1; moment = at; rows = put change_key change newest.rows } ≡ next = cc in
            subst (IsNext newest) same (record {
              number = refl;
              version = record {
                number = omega arith;
                rows = Ascends-put change_key change newest.rows is.rows;
                few = few_after change room;
                grants = AreGrants-later newest.number (newest.number + 1) newest.grants (omega arith) is.grants;
              };
              grants = same_grants newest is (newest.number + 1);
            })
      ] refl e

  -- where a row has the key already, none is added
  replaces : (change stored : RowChange) → look_up change_key (change_key change) newest.rows ≡ Some stored → HasRoom newest change
  replaces change stored found kind new =
      let never : (is_of_kind kind change.row && not (is_some (Some stored))) ≡ true = subst (λ o. (is_of_kind kind change.row && not (is_some o)) ≡ true) found new in
      absurd (no_and (is_of_kind kind change.row) never)
    where
      no_and : (b : Bool) → (b && false) ≡ true → ⊥
      no_and true e = cc
      no_and false e = cc

  module _ (by : GrantRow) (write : Write) where
    delete_led : (next : BaseVersion) (o : Option ℕ) → delete_judged newest write at o ≡ Leads next → IsNext newest next
    delete_led next (Some n) e = cc
    delete_led next None e = marked_led (stored_at newest write) refl e
      where
        marked_led : (stored : Option RowChange) → stored_at newest write ≡ stored → delete_makes newest at stored ≡ Leads next → IsNext newest next
        marked_led None found e = cc
        marked_led (Some stored) found e =
            elim (is_active stored.row.status) as (λ b. cond b (leads_with newest at (marked at stored)) Same ≡ Leads next → IsNext newest next) [
              | true ↦ λ e. led (marked at stored) next (replaces (marked at stored) stored (ap (λ k. look_up change_key k newest.rows) (found_key change_key _ newest.rows stored found) ∙ found)) e
              | false ↦ λ e. cc
            ] e

    -- a put row goes where the write says
    module _ (row : Record) (kind : row.kind ≡ write.kind) (id : row.id ≡ write.id) where
      put_key : ◌≡◌ {A = Key} (place_of_kind row.kind, row.id) (place_of_kind write.kind, write.id)
      put_key = λ i. (place_of_kind (kind i), id i)

      room_for : (change : RowChange) → change.row ≡ row → put_refusal newest by write row ≡ None → stored_at newest write ≡ None → HasRoom newest change
      room_for change is_row passes none other new =
          let seventh : refused_if (is_one_too_many (rows_of newest.rows) write.kind (stored_at newest write)) 7 ≡ None = fourth
          (refused_if (is_of_other by.caller (stored_at newest write)) 4)
          (refused_if (not (is_within by.grant.schools (rows_of newest.rows) row)) 5)
          (refused_if (not (has_grading_period (rows_of newest.rows) row)) 6)
          (refused_if (is_one_too_many (rows_of newest.rows) write.kind (stored_at newest write)) 7) passes in
          let limit : is_one_too_many (rows_of newest.rows) write.kind None ≡ false = passed (is_one_too_many (rows_of newest.rows) write.kind None) 7 (subst (λ o. refused_if (is_one_too_many (rows_of newest.rows) write.kind o) 7 ≡ None) none seventh) in
          let of_kind : (place_of_kind change.row.kind == place_of_kind other) ≡ true = and_first (is_of_kind other change.row) _ new in
          let place : place_of_kind other ≡ place_of_kind write.kind = let e = ap (λ (r : Record). place_of_kind r.kind) is_row ∙ ap place_of_kind kind in grind (arith, nat_tests) in
          let same : count_of other (rows_of newest.rows) ≡ count_of write.kind (rows_of newest.rows) = ap (λ p. count_by (λ (r : Record). place_of_kind r.kind == p) (rows_of newest.rows)) place in
          let small : count_of write.kind (rows_of newest.rows) < row_limit = grind (arith, nat_tests) in
          omega arith

      put_led : (change : RowChange) (next : BaseVersion) → change.row ≡ row → put_refusal newest by write row ≡ None → (stored : Option RowChange) → stored_at newest write ≡ stored → PutMakes newest at change stored (Leads next) → IsNext newest next
      put_led change next is_row passes None found makes = led change next (room_for change is_row passes found) (sym makes)
      put_led change next is_row passes (Some stored) found (inl same) = absurd (let e = same.1 in cc)
      put_led change next is_row passes (Some stored) found (inr differs) =
          led change next (replaces change stored (ap (λ (r : Record). look_up change_key (place_of_kind r.kind, r.id) newest.rows) is_row ∙ ap (λ k. look_up change_key k newest.rows) put_key ∙ found)) (sym differs.1)

-- what a body puts is of the kind and has the id of its path
abbrev pub Names : Kind → List ℕ → Record → Type 0
Names kind id row = (row.kind ≡ kind) × (row.id ≡ id)

row_from_names : (kind : Kind) (id : List ℕ) (status date : Option Value) (values : List (Option Value)) (metadata : List Entry) (row : Record)
    → unless_long (row_from kind (Some (Id id) ∷ status ∷ date ∷ values) metadata) ≡ Ok row → Names kind id row
row_from_names kind id status date values metadata row e =
    let whole = record_from kind (Some (Id id) ∷ status ∷ date ∷ values) metadata in
    elim (nat_lt longest (row_length whole)) as (λ b. unless_long (cond b None (Some whole)) ≡ Ok row → (row.kind ≡ kind) × (row.id ≡ id)) [
      | true ↦ λ e. cc
      | false ↦ λ e. let same : whole ≡ row = cc in (ap (λ (r : Record). r.kind) (sym same), ap (λ (r : Record). r.id) (sym same))
    ] e

other_names : (kind : Kind) (id : List ℕ) (named : Option Value) (made row : Record) → unless_other id named made ≡ Ok row → Names kind id made → Names kind id row
other_names kind id None made row e is = let same : made ≡ row = cc in subst (Names kind id) same is
other_names kind id (Some v) made row e is =
    elim (bytes_eq (id_in (Some v)) id) as (λ b. cond b (Ok made) (Err OtherId) ≡ Ok row → Names kind id row) [
      | true ↦ λ e. let same : made ≡ row = cc in subst (Names kind id) same is
      | false ↦ λ e. cc
    ] e

module _ (kind : Kind) (id : List ℕ) (at : ℤ) (d : Data) (row : Record) where
  from_metadata : (named status : Option Value) (values : List (Option Value)) (r : Result (List Entry) JsonFault)
      → (r >>= λ metadata. unless_long (row_from kind (Some (Id id) ∷ status ∷ Some (Moment at) ∷ values) metadata) >>= λ made. unless_other id named made) ≡ Ok row → Names kind id row
  from_metadata named status values (Err fault) e = cc
  from_metadata named status values (Ok metadata) e =
      let made = both_gave (unless_long (row_from kind (Some (Id id) ∷ status ∷ Some (Moment at) ∷ values) metadata)) (unless_other id named) row e in
      other_names kind id named made.0 row made.2 (row_from_names kind id status (Some (Moment at)) values metadata made.0 made.1)

  metadata_of : Result (List Entry) JsonFault
  metadata_of = in_member (codes "metadata") (metadata_in (get (codes "metadata") d))

  from_values : (named status : Option Value) (r : Result (List (Option Value)) JsonFault)
      → (r >>= λ values. metadata_of >>= λ metadata. unless_long (row_from kind (Some (Id id) ∷ status ∷ Some (Moment at) ∷ values) metadata) >>= λ made. unless_other id named made) ≡ Ok row → Names kind id row
  from_values named status (Err fault) e = cc
  from_values named status (Ok values) e = from_metadata named status values metadata_of e

  values_read : Result (List (Option Value)) JsonFault
  values_read = values_in Bulk common_fields (own_fields kind) d

  from_status : (named : Option Value) (r : Result (Option Value) JsonFault)
      → (r >>= λ status. values_read >>= λ values. metadata_of >>= λ metadata. unless_long (row_from kind (Some (Id id) ∷ status ∷ Some (Moment at) ∷ values) metadata) >>= λ made. unless_other id named made) ≡ Ok row → Names kind id row
  from_status named (Err fault) e = cc
  from_status named (Ok status) e = from_values named status values_read e

  from_named : (r : Result (Option Value) JsonFault)
      → (r >>= λ named. member_value status_field d >>= λ status. values_read >>= λ values. metadata_of >>= λ metadata. unless_long (row_from kind (Some (Id id) ∷ status ∷ Some (Moment at) ∷ values) metadata) >>= λ made. unless_other id named made) ≡ Ok row → Names kind id row
  from_named (Err fault) e = cc
  from_named (Ok named) e = from_status named (member_value status_field d) e

  put_in_names : put_in kind id at d ≡ Ok row → Names kind id row
  unfolding put_in metadata_of values_read
  put_in_names e = from_named (member_value id_field d) e

pub put_names : (kind : Kind) (id : List ℕ) (at : ℤ) (bytes : List ℕ) (row : Record) → put_of kind id at bytes ≡ Ok row → Names kind id row
unfolding put_of
put_names kind id at bytes row e =
    let read = bind_ok (data_of bytes) (put_under kind id at) row e in
    let under = bind_ok (object_under (get (single_of kind) read.0)) (put_in kind id at) row read.1 in
    put_in_names kind id at under.0 row under.1

module _ (newest : BaseVersion) (is : IsVersion newest) (at : ℤ) (by : GrantRow) (write : Write) (next : BaseVersion) where
  row_led : (row : Record) → Names write.kind write.id row → (o : Option ℕ) → put_refusal newest by write row ≡ o → PutJudged newest by write at row o (Leads next) → IsNext newest next
  row_led row names (Some n) passes judged = cc
  row_led row names None passes judged = put_led newest is at by write row names.0 names.1 (record { row = row; owner = Caller by.caller }) next refl passes (stored_at newest write) refl judged

  body_led : (r : Result Record JsonFault) → put_of write.kind write.id at write.body ≡ r → BodyJudged newest by write at r (Leads next) → IsNext newest next
  body_led (Err fault) read judged = cc
  body_led (Ok row) read judged = row_led row (put_names write.kind write.id at write.body row read) (put_refusal newest by write row) refl judged

  new_led : (b : Bool) → NewJudged b newest by write at (Leads next) → IsNext newest next
  new_led true judged = delete_led newest is at by write next (delete_refusal newest by write) (sym judged)
  new_led false judged = body_led (put_of write.kind write.id at write.body) refl judged

  pub judged_led : (o : Option MarkRow) → Judged o newest by write at (Leads next) → IsNext newest next
  judged_led (Some held) judged = elim (same_write held.write write) as (λ b. Leads next ≡ cond b (Repeat held.kept) (Refused mark_taken_outcome) → IsNext newest next) [ true ↦ λ e. cc | false ↦ λ e. cc ] judged
  judged_led None judged = new_led write.delete judged
