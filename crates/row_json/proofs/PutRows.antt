-- What a body puts is a row: its values fit, its metadata rises under good keys, and it isn't too long.
use Rattle.std.proofs.Common.{◌≡◌, ℕ, ℤ, ◌+◌, true, false, cond, List, [], ◌∷◌, Option, Some, None, Result, Ok, Err}
use Rattle.std.proofs.Common.{IfSome, Less, bytes_eq, codes, drop, get_or, map, nat_lt, refl, sym, subst, arith}
use Rattle.std.proofs.lemmas.Bool.{and_from}
use Rattle.std.proofs.lemmas.Bool.Decides.{nat_tests}
use Rattle.std.proofs.lemmas.Result.{IfOk-at_ok}
use Rattle.std.specs.Cmp.Lexicographic.{slice_cmp}
use Rattle.std.specs.List.{AllByRecursion, list_all}
use Rattle.std.specs.List.Sorted.{IsStrictlySortedBy}
use Rattle.std.specs.Ordering.{nat_cmp}
use Rattle.std.specs.Str.{is_utf8}
use Rattle.row_json.proofs.FieldSteps.{field_fits, read_in}
use Rattle.row_json.proofs.PutSteps.{put_fits}
use Rattle.row_json.proofs.Rising.{InOrder, IsBelow, Rise, get_in_order, members_of_object, read_in_order}
use Rattle.row_json.specs.Puts.{id_field, member_value, put_in, put_of, put_under, status_field, unless_other}
use Rattle.roster_base.specs.Moments.{IsMoment}
use Rattle.roster_base.specs.Order.{RiseBy}
use Rattle.roster_base.specs.Reading.{◌>>=◌}
use Rattle.roster_texts.specs.Results.{found_or}
use Rattle.roster_texts.specs.Texts.{is_id}
use Rattle.roster_texts.specs.Trim.{trimmed}
use Rattle.roster_texts.specs.declared.fault.ValueFault.TheVariants.{BadList}
use Rattle.roster_types.proofs.Fitting.{fitting_from}
use Rattle.roster_types.proofs.MetadataLaws.{IsMetadata-nil}
use Rattle.roster_types.specs.Lengths.{row_length}
use Rattle.roster_types.specs.Records.{IsMetadata, Record, has_id_key, has_plain_text, id_in, key_of, moment_in}
use Rattle.roster_types.specs.Records.{record_from, status_in}
use Rattle.roster_types.specs.Rows.{IsRow, longest, row_from}
use Rattle.roster_types.specs.Shapes.{fits_all, own_fields}
use Rattle.roster_types.specs.declared.metadata.Entry.{Entry}
use Rattle.roster_values.specs.Fit.{fits}
use Rattle.roster_values.specs.Kinds.{single_of}
use Rattle.roster_values.specs.Table.{Info, common_fields, table}
use Rattle.roster_values.specs.declared.kind.Kind.{Kind}
use Rattle.roster_values.specs.declared.mode.Mode.TheVariants.{Bulk}
use Rattle.roster_values.specs.declared.value.Value.{Value}
use Rattle.roster_values.specs.declared.value.Value.TheVariants.{Id, Moment}
use Rattle.row_json.proofs.MetadataSteps.{entry_read}
use Rattle.row_json.specs.Reading.{data_of, entries_in, entry_from, entry_in, field_in, in_member, is_object}
use Rattle.row_json.specs.Reading.{metadata_in, object_under, unless_long, values_in, with_entry}
use Rattle.row_json.specs.declared.fault.JsonFault.{JsonFault}
use Rattle.row_json.specs.declared.fault.JsonFault.TheVariants.{NotJson, OtherId, Shape}
use Rattle.serde_json.specs.Data.{Data, Members, no_members, member}
use Rattle.serde_json.specs.Find.{as_object, as_str, get}
use Rattle.serde_json.specs.Read.{read}

-- where the second reading gave something, the first did
pub both_gave : {A B F : Type 0} (r : Result A F) (f : A → Result B F) (y : B) → (r >>= f) ≡ Ok y → (x : A) × (r ≡ Ok x) × (f x ≡ Ok y)
both_gave (Ok x) f y e = (x, refl, e)
both_gave (Err fault) f y e = cc

-- ---- metadata

good_key : (key : List ℕ) (text : Option (List ℕ)) (e : Entry) → entry_in key text ≡ Ok (Some e) → is_id key ≡ true
unfolding entry_in
good_key key None e h = cc
good_key key (Some text) e h = elim (is_id key) as (λ b. cond b (Ok (entry_from key (trimmed text))) (Err BadList) ≡ Ok (Some e) → b ≡ true) [ true ↦ λ _. refl | false ↦ λ h. cc ] h

-- entries that were read of members
record AreEntriesOf (ms : Members) (es : List Entry) : Type 0 where
  rise : RiseBy key_of es
  plain : list_all has_plain_text es ≡ true
  keys : list_all has_id_key es ≡ true
  above : (k : List ℕ) → IsBelow k ms → AllByRecursion (λ key. slice_cmp nat_cmp k key ≡ Less) (map key_of es)

one_more : (k : List ℕ) (d : Data) (ms : Members) (entry : Option Entry) (es : List Entry) → IsBelow k ms → entry_in k (as_str d) ≡ Ok entry → AreEntriesOf ms es → AreEntriesOf (member k d ms) (with_entry entry es)
unfolding IsStrictlySortedBy
one_more k d ms None es low h are = record { rise = are.rise; plain = are.plain; keys = are.keys; above = λ j below. are.above j below.1 }
one_more k d ms (Some e) es low h are =
    let is = entry_read k (as_str d) e h in
    record {
      rise = (subst (λ j. AllByRecursion (λ key. slice_cmp nat_cmp j key ≡ Less) (map key_of es)) (sym is.named) (are.above k low), are.rise);
      plain = and_from _ _ is.plain are.plain;
      keys = and_from _ _ (subst (λ j. is_id j ≡ true) (sym is.named) (good_key k (as_str d) e h)) are.keys;
      above = λ j below. (subst (λ i. slice_cmp nat_cmp j i ≡ Less) (sym is.named) below.0, are.above j below.1);
    }

are_entries : (ms : Members) (es : List Entry) → Rise ms → entries_in ms ≡ Ok es → AreEntriesOf ms es
unfolding entries_in IsStrictlySortedBy
are_entries no_members es rise e =
    let none : [] ≡ es = cc in
    subst (AreEntriesOf no_members) none (record { rise = tt; plain = refl; keys = refl; above = λ k below. tt })
are_entries (member k d ms) es rise e =
    let one = both_gave (entry_in k (as_str d)) (λ entry. entries_in ms >>= λ more. Ok (with_entry entry more)) es e in
    let more = both_gave (entries_in ms) (λ more. Ok (with_entry one.0 more)) es one.2 in
    let same : with_entry one.0 more.0 ≡ es = let made = more.2 in cc in
    subst (AreEntriesOf (member k d ms)) same (one_more k d ms one.0 more.0 rise.0 one.1 (are_entries ms more.0 rise.2 more.1))

good_of_object : (o : Option Members) (es : List Entry) → IfSome o Rise → (found_or BadList o >>= entries_in) ≡ Ok es → IsMetadata es
good_of_object None es rise e = cc
good_of_object (Some ms) es rise e = let are = are_entries ms es rise e in record { rise = are.rise; plain = are.plain; keys = are.keys }

good_metadata : (o : Option Data) (es : List Entry) → IfSome o InOrder → metadata_in o ≡ Ok es → IsMetadata es
unfolding metadata_in
good_metadata None es is e = let none : [] ≡ es = cc in subst IsMetadata none IsMetadata-nil
good_metadata (Some d) es is e = good_of_object (as_object d) es (members_of_object d is) e

-- ---- values

values_fit : (place : ℕ) (infos : List Info) (d : Data) (vs : List (Option Value)) → values_in Bulk place infos d ≡ Ok vs → fits_all infos vs ≡ true
unfolding values_in
values_fit place [] d vs e = let none : [] ≡ vs = cc in subst (λ vs. fits_all [] vs ≡ true) none refl
values_fit place (i ∷ is) d vs e =
    let one = both_gave (in_member i.name (field_in i (get i.name d))) (λ v. values_in Bulk (place + 1) is d >>= λ more. Ok (v ∷ more)) vs e in
    let more = both_gave (values_in Bulk (place + 1) is d) (λ more. Ok (one.0 ∷ more)) vs one.2 in
    let same : one.0 ∷ more.0 ≡ vs = let made = more.2 in cc in
    subst (λ vs. fits_all (i ∷ is) vs ≡ true) same (and_from _ _ (IfOk-at_ok (λ o. fits i o ≡ true) (read_in i.name _ one.0 one.1) (field_fits i (get i.name d))) (values_fit (place + 1) is d more.0 more.1))

-- ---- the row

row_made : (kind : Kind) (xs : List (Option Value)) (metadata : List Entry) (made : Record) → fits_all (table kind) xs ≡ true → IsMetadata metadata → unless_long (row_from kind xs metadata) ≡ Ok made → IsRow made
row_made kind xs metadata made fit order e =
    let whole = record_from kind xs metadata in
    elim (nat_lt longest (row_length whole)) as (λ b. nat_lt longest (row_length whole) ≡ b → unless_long (cond b None (Some whole)) ≡ Ok made → IsRow made) [
      | true ↦ λ long e. cc
      | false ↦ λ short e.
          let same : whole ≡ made = cc in
          subst IsRow same (record { fitting = fitting_from kind kind xs (drop common_fields xs) metadata (id_in (get_or xs 0 None)) (status_in (get_or xs 1 None)) (moment_in (get_or xs 2 None)) fit order refl refl refl refl; short = grind (arith, nat_tests) })
    ] refl e

same_row : (id : List ℕ) (named : Option Value) (made row : Record) → unless_other id named made ≡ Ok row → made ≡ row
same_row id None made row e = cc
same_row id (Some v) made row e = elim (bytes_eq (id_in (Some v)) id) as (λ b. cond b (Ok made) (Err OtherId) ≡ Ok row → made ≡ row) [ true ↦ λ e. cc | false ↦ λ e. cc ] e

module _ (kind : Kind) (id : List ℕ) (at : ℤ) (good : is_id id ≡ true) (moment : IsMoment at) where
  module _ (d : Data) (order : InOrder d) (row : Record) where
    abbrev values_read : Result (List (Option Value)) JsonFault
    values_read = values_in Bulk common_fields (own_fields kind) d

    abbrev metadata_read : Result (List Entry) JsonFault
    metadata_read = in_member (codes "metadata") (metadata_in (get (codes "metadata") d))

    abbrev all_of : Option Value → List (Option Value) → List (Option Value)
    all_of status values = Some (Id id) ∷ status ∷ Some (Moment at) ∷ values

    abbrev with_metadata : Option Value → Option Value → List (Option Value) → List Entry → Result Record JsonFault
    with_metadata named status values metadata = unless_long (row_from kind (all_of status values) metadata) >>= unless_other id named

    abbrev with_values : Option Value → Option Value → List (Option Value) → Result Record JsonFault
    with_values named status values = metadata_read >>= with_metadata named status values

    abbrev with_status : Option Value → Option Value → Result Record JsonFault
    with_status named status = values_read >>= with_values named status

    row_in : put_in kind id at d ≡ Ok row → IsRow row
    unfolding put_in
    row_in e =
        let named = both_gave (member_value id_field d) (λ named. member_value status_field d >>= with_status named) row e in
        let status = both_gave (member_value status_field d) (with_status named.0) row named.2 in
        let values = both_gave values_read (with_values named.0 status.0) row status.2 in
        let metadata = both_gave metadata_read (with_metadata named.0 status.0 values.0) row values.2 in
        let made = both_gave (unless_long (row_from kind (all_of status.0 values.0) metadata.0)) (unless_other id named.0) row metadata.2 in
        let told = good_metadata (get (codes "metadata") d) metadata.0 (get_in_order (codes "metadata") d order) (read_in (codes "metadata") _ metadata.0 metadata.1) in
        let fit = put_fits kind id status.0 at values.0 good moment (IfOk-at_ok (λ o. fits status_field o ≡ true) (read_in status_field.name _ status.0 status.1) (field_fits status_field (get status_field.name d))) (values_fit common_fields (own_fields kind) d values.0 values.1) in
        subst IsRow (same_row id named.0 made.0 row made.2) (row_made kind (all_of status.0 values.0) metadata.0 made.0 fit told made.1)

  read_order : (bytes : List ℕ) (d : Data) → data_of bytes ≡ Ok d → InOrder d
  unfolding data_of
  read_order bytes d e =
      elim (is_utf8 bytes) as (λ b. cond b (found_or NotJson (read bytes)) (Err NotJson) ≡ Ok d → InOrder d) [
        | true ↦ λ e. found_order (read bytes) (read_in_order bytes) e
        | false ↦ λ e. cc
      ] e
    where
      found_order : (o : Option Data) → IfSome o InOrder → found_or NotJson o ≡ Ok d → InOrder d
      found_order None is e = cc
      found_order (Some x) is e = let same : x ≡ d = cc in subst InOrder same is

  under_order : (o : Option Data) (d : Data) → IfSome o InOrder → object_under o ≡ Ok d → InOrder d
  under_order None d is e = cc
  under_order (Some x) d is e = elim (is_object x) as (λ b. cond b (Ok x) (Err Shape) ≡ Ok d → InOrder d) [ true ↦ λ e. let same : x ≡ d = cc in subst InOrder same is | false ↦ λ e. cc ] e

  pub put_row : (bytes : List ℕ) (row : Record) → put_of kind id at bytes ≡ Ok row → IsRow row
  unfolding put_of
  put_row bytes row e =
      let whole = both_gave (data_of bytes) (put_under kind id at) row e in
      let under = both_gave (object_under (get (single_of kind) whole.0)) (put_in kind id at) row whole.2 in
      row_in under.0 (under_order (get (single_of kind) whole.0) under.0 (get_in_order (single_of kind) whole.0 (read_order bytes whole.0 whole.1)) under.1) row under.2
