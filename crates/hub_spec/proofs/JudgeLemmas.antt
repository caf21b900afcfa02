-- The verdict on a write that no mark tells of is kept under its mark.
use Rattle.std.proofs.Common.{◌≡◌, ℕ, ℤ, ◌+◌, ◌≤◌, inl, inr, Bool, true, false, ◌&&◌, ◌==◌, not, cond, List, [], ◌∷◌}
use Rattle.std.proofs.Common.{Option, None, Some, Result, Ok, Err, bytes_eq, refl, sym, subst, arith}
use Rattle.std.proofs.lemmas.Bool.{and_from, eq-eqb}
use Rattle.std.proofs.lemmas.Bool.Decides.{nat_tests}
use Rattle.std.proofs.lemmas.Slice.Eq.{bytes_eq-Decides}
use Rattle.std.specs.List.{prefix_len}
use Rattle.roster_values.proofs.KindLaws.{kind_from_place}
use Rattle.reference_rules.proofs.KeyOrder.{and_first, and_second}
use Rattle.version_changes.proofs.Finding.{same_text}
use Rattle.version_changes.specs.sets.Applying.{is_active, marked}
use Rattle.hub_spec.proofs.Growing.{find_it}
use Rattle.hub_spec.specs.views.Seen.{sees}
use Rattle.hub_spec.specs.rules.Marked.{same_flag, same_write}
use Rattle.hub_spec.specs.rules.Refusals.{delete_refusal, first_of, has_grading_period, is_of_other, is_one_too_many}
use Rattle.hub_spec.specs.rules.Refusals.{is_within, put_refusal, refused_if, stored_at}
use Rattle.hub_spec.specs.rules.Verdicts.{BodyJudged, Leads, NewJudged, PutJudged, PutMakes, Refused, Repeat, Same}
use Rattle.hub_spec.specs.rules.Verdicts.{Verdict, delete_judged, delete_makes, leads_with}
use Rattle.roster_types.specs.Records.{Record}
use Rattle.roster_types.specs.declared.owner.Owner.TheVariants.{Caller}
use Rattle.roster_values.specs.Kinds.{place_of_kind}
use Rattle.row_json.specs.Puts.{put_of}
use Rattle.row_json.specs.declared.fault.JsonFault.{JsonFault}
use Rattle.version_core.specs.Changes.{change_key, rows_of}
use Rattle.version_core.specs.Marks.{is_below, mark_at, mark_key, same_mark, with_mark}
use Rattle.version_core.specs.Order.{put}
use Rattle.version_core.specs.Outcomes.{last_version_outcome}
use Rattle.version_core.specs.Version.{last_version}
use Rattle.version_core.specs.declared.change.BaseVersion.{BaseVersion}
use Rattle.version_core.specs.declared.grant_row.GrantRow.{GrantRow}
use Rattle.version_core.specs.declared.mark.MarkRow.{MarkRow}
use Rattle.version_core.specs.declared.mark.Write.{Write}
use Rattle.version_core.specs.declared.row_change.RowChange.{RowChange}

-- ---- what is kept is found

pub mark_found : (mark : MarkRow) (marks : List MarkRow) → mark_at (mark_key mark) marks ≡ None → mark_at (mark_key mark) (with_mark mark marks) ≡ Some mark
mark_found mark marks none = find_it (λ m. same_mark (mark_key mark) (mark_key m)) marks (prefix_len (is_below mark) marks) mark (and_from _ _ ((bytes_eq-Decides mark.caller mark.caller).1 refl) (eq-eqb mark.number mark.number refl)) none

-- ---- when two writes are one

flag_same : (b : Bool) → same_flag b b ≡ true
flag_same true = refl
flag_same false = refl

flag_is : (a b : Bool) → same_flag a b ≡ true → a ≡ b
flag_is true true e = refl
flag_is true false e = cc
flag_is false true e = cc
flag_is false false e = refl

pub write_same : (write : Write) → same_write write write ≡ true
write_same write =
    let flag = same_flag write.delete write.delete in
    let kind = place_of_kind write.kind == place_of_kind write.kind in
    let id = bytes_eq write.id write.id in
    and_from (flag && kind && id) (bytes_eq write.body write.body) (and_from (flag && kind) id (and_from flag kind (flag_same write.delete) (eq-eqb (place_of_kind write.kind) (place_of_kind write.kind) refl)) ((bytes_eq-Decides write.id write.id).1 refl)) ((bytes_eq-Decides write.body write.body).1 refl)

pub write_is : (one other : Write) → same_write one other ≡ true → one ≡ other
write_is one other e =
    let flag = same_flag one.delete other.delete in
    let kind = place_of_kind one.kind == place_of_kind other.kind in
    let id = bytes_eq one.id other.id in
    let body = bytes_eq one.body other.body in
    let three = and_first (flag && kind && id) body e in
    let two = and_first (flag && kind) id three in
    let place : place_of_kind one.kind ≡ place_of_kind other.kind = let f = and_second flag kind two in grind (arith, nat_tests) in
    λ i. record {
      delete = flag_is one.delete other.delete (and_first flag kind two) i;
      kind = kind_from_place one.kind other.kind place i;
      id = same_text one.id other.id (and_second (flag && kind) id three) i;
      body = same_text one.body other.body (and_second (flag && kind && id) body e) i;
    }

-- ---- the verdict on a new write: it leads on, or changes nothing, or refuses under a number from 2 on

abbrev pub IsNew : Verdict → Type 0
IsNew (Leads version) = Unit {0}
IsNew Same = Unit {0}
IsNew (Repeat kept) = ⊥
IsNew (Refused number) = 2 ≤ number

abbrev AboveOne : List (Option ℕ) → Type 0
AboveOne [] = Unit {0}
AboveOne (None ∷ checks) = AboveOne checks
AboveOne (Some number ∷ checks) = (2 ≤ number) × AboveOne checks

first_above : (checks : List (Option ℕ)) (number : ℕ) → AboveOne checks → first_of checks ≡ Some number → 2 ≤ number
first_above [] number all e = cc
first_above (None ∷ checks) number all e = first_above checks number all e
first_above (Some m ∷ checks) number all e = let same : m ≡ number = cc in subst (λ n. 2 ≤ n) same all.0

check_above : (b : Bool) (number : ℕ) (checks : List (Option ℕ)) → 2 ≤ number → AboveOne checks → AboveOne (refused_if b number ∷ checks)
check_above true number checks le all = (le, all)
check_above false number checks le all = all

module _ (newest : BaseVersion) (by : GrantRow) (write : Write) (at : ℤ) where
  new_leads : (change : RowChange) → IsNew (leads_with newest at change)
  new_leads change = elim (newest.number == last_version) as (λ b. IsNew (cond b (Refused last_version_outcome) (Leads (record newest { number = newest.number + 1; moment = at; rows = put change_key change newest.rows })))) [ true ↦ omega arith | false ↦ tt ]

  new_deleted : (stored : Option RowChange) → IsNew (delete_makes newest at stored)
  new_deleted None = omega arith
  new_deleted (Some stored) = elim (is_active stored.row.status) as (λ b. IsNew (cond b (leads_with newest at (marked at stored)) Same)) [ true ↦ new_leads (marked at stored) | false ↦ tt ]

  new_delete : (o : Option ℕ) → delete_refusal newest by write ≡ o → IsNew (delete_judged newest write at o)
  new_delete None e = new_deleted (stored_at newest write)
  new_delete (Some number) e =
      let others = refused_if (is_of_other by.caller (stored_at newest write)) 4 ∷ [] in
      let unseen = not (sees by.grant.schools (rows_of newest.rows) write.kind write.id) in
      first_above (refused_if unseen 3 ∷ others) number (check_above unseen 3 others (omega arith) (check_above (is_of_other by.caller (stored_at newest write)) 4 [] (omega arith) tt)) e

  new_made : (change : RowChange) (stored : Option RowChange) (verdict : Verdict) → PutMakes newest at change stored verdict → IsNew verdict
  new_made change None verdict makes = subst IsNew (sym makes) (new_leads change)
  new_made change (Some stored) verdict (inl same) = subst IsNew (sym same.1) tt
  new_made change (Some stored) verdict (inr differs) = subst IsNew (sym differs.1) (new_leads change)

  new_row : (row : Record) (o : Option ℕ) (verdict : Verdict) → put_refusal newest by write row ≡ o → PutJudged newest by write at row o verdict → IsNew verdict
  new_row row None verdict e judged = new_made (record { row = row; owner = Caller by.caller }) (stored_at newest write) verdict judged
  new_row row (Some number) verdict e judged =
      let others = is_of_other by.caller (stored_at newest write) in
      let outside = not (is_within by.grant.schools (rows_of newest.rows) row) in
      let wrong = not (has_grading_period (rows_of newest.rows) row) in
      let many = is_one_too_many (rows_of newest.rows) write.kind (stored_at newest write) in
      let last = refused_if many 7 ∷ [] in
      let later = refused_if wrong 6 ∷ last in
      let rest = refused_if outside 5 ∷ later in
      subst IsNew (sym judged) (first_above (refused_if others 4 ∷ rest) number
      (check_above others 4 rest (omega arith) (check_above outside 5 later (omega arith) (check_above wrong 6 last (omega arith) (check_above many 7 [] (omega arith) tt)))) e)

  new_body : (r : Result Record JsonFault) (verdict : Verdict) → BodyJudged newest by write at r verdict → IsNew verdict
  new_body (Err fault) verdict judged = subst IsNew (sym judged) (omega arith)
  new_body (Ok row) verdict judged = new_row row (put_refusal newest by write row) verdict refl judged

  pub new_judged : (b : Bool) (verdict : Verdict) → NewJudged b newest by write at verdict → IsNew verdict
  new_judged true verdict judged = subst IsNew (sym judged) (new_delete (delete_refusal newest by write) refl)
  new_judged false verdict judged = new_body (put_of write.kind write.id at write.body) verdict judged
