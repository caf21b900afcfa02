-- Values that may stand in the fields of a kind.
use Rattle.std.proofs.Common.{◌≡◌, ◌≤◌, ◌-◌, ℕ, zero, suc, ℤ, true, false, List, [], ◌∷◌, Option, Some, None, length}
use Rattle.std.proofs.Common.{get_or, drop, take, refl, ap, sym, arith}
use Rattle.std.proofs.lemmas.Bool.{and_from, and_parts}
use Rattle.std.proofs.lemmas.Int.{ints}
use Rattle.roster_base.specs.Moments.{IsMoment}
use Rattle.roster_texts.specs.Moments.{is_moment}
use Rattle.roster_values.specs.declared.kind.Kind.{Kind}
use Rattle.roster_values.specs.declared.kind.Kind.TheVariants.{Orgs}
use Rattle.roster_values.specs.declared.value.Value.{Value}
use Rattle.roster_values.specs.declared.value.Value.TheVariants.{Id, Moment, Word}
use Rattle.roster_values.specs.Fit.{fits, fits_form, fits_parts}
use Rattle.roster_values.specs.Table.{IdForm, Info, MomentForm, WordForm, common, common_fields, statuses, table}
use Rattle.roster_types.specs.declared.metadata.Entry.{Entry}
use Rattle.roster_types.specs.declared.status.Status.{Status}
use Rattle.roster_types.specs.declared.status.Status.TheVariants.{Active, ToBeDeleted}
use Rattle.roster_types.specs.Records.{IsFitting, IsMetadata, Record, all_values, id_in, moment_in, record_from}
use Rattle.roster_types.specs.Records.{status_in, status_word}
use Rattle.roster_types.specs.Shapes.{fits_all, own_fields}

-- each kind's fields are the common ones and its own
pub table-common : (kind : Kind) → table kind ≡ common (own_fields kind)
table-common Orgs = refl
table-common _ = refl

pub fits_all-length : (is : List Info) (vs : List (Option Value)) → fits_all is vs ≡ true → length is ≡ length vs
fits_all-length [] [] h = refl
fits_all-length [] (v ∷ vs) h = cc
fits_all-length (i ∷ is) [] h = cc
fits_all-length (i ∷ is) (v ∷ vs) h = ap suc (fits_all-length is vs (and_parts (fits i v) (fits_all is vs) h).1)

-- a value at a place fits the field there
pub fits_all-at : (is : List Info) (vs : List (Option Value)) (k : ℕ) (d : Info) (v : Value) → fits_all is vs ≡ true → get_or vs k None ≡ Some v → fits_form (get_or is k d).form v ≡ true
fits_all-at [] [] k d v h e = cc
fits_all-at [] (w ∷ ws) k d v h e = cc
fits_all-at (i ∷ is) [] k d v h e = cc
fits_all-at (i ∷ is) (w ∷ ws) zero d v h e = rw e at (and_parts (fits i w) (fits_all is ws) h).0
fits_all-at (i ∷ is) (w ∷ ws) (suc k) d v h e = fits_all-at is ws k d v (and_parts (fits i w) (fits_all is ws) h).1 e

-- the values of all fields, split into those of the common fields and the rest
pub record Split (own : List Info) (vs : List (Option Value)) : Type 0 where
  pub first : Option Value
  pub second : Option Value
  pub third : Option Value
  pub rest : List (Option Value)
  pub is : vs ≡ first ∷ second ∷ third ∷ rest
  pub id : fits_parts IdForm true first ≡ true
  pub status : fits_parts (WordForm statuses) false second ≡ true
  pub date : fits_parts MomentForm false third ≡ true
  pub own_fit : fits_all own rest ≡ true

split_common : (own : List Info) (vs : List (Option Value)) → fits_all (common own) vs ≡ true → Split own vs
split_common own [] h = cc
split_common own (a ∷ []) h = let p = and_parts (fits_parts IdForm true a) false h in cc p.1
split_common own (a ∷ b ∷ []) h =
    let p = and_parts (fits_parts IdForm true a) _ h in
    let q = and_parts (fits_parts (WordForm statuses) false b) false p.1 in
    cc q.1
split_common own (a ∷ b ∷ c ∷ vs) h =
    let p = and_parts (fits_parts IdForm true a) _ h in
    let q = and_parts (fits_parts (WordForm statuses) false b) _ p.1 in
    let r = and_parts (fits_parts MomentForm false c) (fits_all own vs) q.1 in
    record { first = a; second = b; third = c; rest = vs; is = refl; id = p.0; status = q.0; date = r.0; own_fit = r.1 }

pub split : (kind : Kind) (vs : List (Option Value)) → fits_all (table kind) vs ≡ true → Split (own_fields kind) vs
split kind vs h = split_common (own_fields kind) vs (rw (table-common kind) at h)

id_fits : (o : Option Value) → fits_parts IdForm true o ≡ true → fits_parts IdForm true (Some (Id (id_in o))) ≡ true
id_fits None h = cc
id_fits (Some (Id t)) h = h
id_fits (Some v) h = cc

status_fits : (status : Status) → fits_parts (WordForm statuses) false (Some (Word (status_word status))) ≡ true
status_fits Active = refl
status_fits ToBeDeleted = refl

moment_fits : (o : Option Value) → fits_parts MomentForm false o ≡ true → fits_parts MomentForm false (Some (Moment (moment_in o))) ≡ true
moment_fits None h = refl
moment_fits (Some (Moment m)) h = h
moment_fits (Some v) h = cc

joined : (own : List Info) (id : List ℕ) (status : Status) (modified : ℤ) (vs : List (Option Value)) → fits_parts IdForm true (Some (Id id)) ≡ true → fits_parts MomentForm false (Some (Moment modified)) ≡ true
    → fits_all own vs ≡ true → fits_all (common own) (Some (Id id) ∷ Some (Word (status_word status)) ∷ Some (Moment modified) ∷ vs) ≡ true
joined own id status modified vs a b c = and_from _ _ a (and_from _ _ (status_fits status) (and_from _ _ b c))

-- a row of these parts is fitting
join : (kind : Kind) (id : List ℕ) (status : Status) (modified : ℤ) (vs : List (Option Value)) → fits_parts IdForm true (Some (Id id)) ≡ true → fits_parts MomentForm false (Some (Moment modified)) ≡ true
    → fits_all (own_fields kind) vs ≡ true → fits_all (table kind) (Some (Id id) ∷ Some (Word (status_word status)) ∷ Some (Moment modified) ∷ vs) ≡ true
join kind id status modified vs a b c = rw (table-common kind) (joined (own_fields kind) id status modified vs a b c)

-- the common fields taken from the end, one by one
pub taken : (xs ts us vs : List (Option Value)) (a b c : Option Value) → common_fields ≤ length xs → ts ≡ take common_fields xs → c ≡ get_or ts (length ts - 1) None → us ≡ take (length ts - 1) ts → b ≡ get_or us (length us - 1) None
    → vs ≡ take (length us - 1) us → a ≡ get_or vs (length vs - 1) None → (a ≡ get_or xs 0 None) × (b ≡ get_or xs 1 None) × (c ≡ get_or xs 2 None)
taken [] ts us vs a b c l p q r s t u = absurd (omega arith)
taken (x ∷ []) ts us vs a b c l p q r s t u = absurd (omega arith)
taken (x ∷ y ∷ []) ts us vs a b c l p q r s t u = absurd (omega arith)
taken (x ∷ y ∷ z ∷ rest) ts us vs a b c l p q r s t u =
    let two : us ≡ x ∷ y ∷ [] = rw p at r in
    let one : vs ≡ x ∷ [] = rw two at t in
    (rw one at u, rw two at s, rw p at q)

pub fitting_from : (kind made : Kind) (xs values : List (Option Value)) (metadata : List Entry) (id : List ℕ) (status : Status) (modified : ℤ) → fits_all (table kind) xs ≡ true → IsMetadata metadata
    → made ≡ kind → id ≡ id_in (get_or xs 0 None) → modified ≡ moment_in (get_or xs 2 None) → values ≡ drop common_fields xs
    → IsFitting (record { kind = made; id = id; status = status; modified = modified; values = values; metadata = metadata })
fitting_from kind made xs values metadata id status modified h m k i d v =
    let s = split kind xs h in
    record {
      values = rw (k, i, d, v, s.is) (join kind (id_in s.first) status (moment_in s.third) s.rest (id_fits s.first s.id) (moment_fits s.third s.date) s.own_fit);
      metadata = m;
    }

pub in_moments : (m : ℤ) → IsMoment m → is_moment m ≡ true
in_moments m h = grind (arith, ints)

rejoin : (r : Record) (status : Status) (modified : ℤ) → fits_parts MomentForm false (Some (Moment modified)) ≡ true → IsFitting r → IsFitting (record r { status = status; modified = modified })
rejoin r status modified m h =
    let s = split r.kind (all_values r) h.values in
    record {
      values = join r.kind r.id status modified r.values (rw (sym (ap (λ (vs : List (Option Value)). get_or vs 0 None) s.is)) at s.id) m (rw (sym (ap (λ (vs : List (Option Value)). drop common_fields vs) s.is)) at s.own_fit);
      metadata = h.metadata;
    }

-- another status changes nothing of that, and no more does another date
pub restatus : (r : Record) (status : Status) → IsFitting r → IsFitting (record r { status = status })
restatus r status h =
    let s = split r.kind (all_values r) h.values in
    rejoin r status r.modified (rw (sym (ap (λ (vs : List (Option Value)). get_or vs 2 None) s.is)) at s.date) h

pub rechanged : (r : Record) (status : Status) (modified : ℤ) → IsMoment modified → IsFitting r → IsFitting (record r { status = status; modified = modified })
rechanged r status modified m h = rejoin r status modified (in_moments modified m) h

-- a fitting row's own values fit its own fields
pub own_values_fit : (r : Record) → IsFitting r → fits_all (own_fields r.kind) r.values ≡ true
own_values_fit r h = let s = split r.kind (all_values r) h.values in rw (sym (ap (λ (vs : List (Option Value)). drop common_fields vs) s.is)) at s.own_fit

three_or_more : (own : List Info) (vs : List (Option Value)) → Split own vs → common_fields ≤ length vs
three_or_more own vs s = rw s.is (omega arith)

-- every kind has the three common fields
pub at_least_three : (kind : Kind) (vs : List (Option Value)) → fits_all (table kind) vs ≡ true → common_fields ≤ length vs
at_least_three kind vs h = three_or_more (own_fields kind) vs (split kind vs h)

pub id_fit : (kind : Kind) (vs : List (Option Value)) → fits_all (table kind) vs ≡ true → fits_parts IdForm true (get_or vs 0 None) ≡ true
id_fit kind vs h = let s = split kind vs h in rw s.is s.id

pub own_fit : (kind : Kind) (vs : List (Option Value)) → fits_all (table kind) vs ≡ true → fits_all (own_fields kind) (drop common_fields vs) ≡ true
own_fit kind vs h = let s = split kind vs h in rw s.is s.own_fit

pub record_is : (kind made : Kind) (xs values : List (Option Value)) (metadata : List Entry) (id : List ℕ) (status : Status) (modified : ℤ) → made ≡ kind → id ≡ id_in (get_or xs 0 None)
    → status ≡ status_in (get_or xs 1 None) → modified ≡ moment_in (get_or xs 2 None) → values ≡ drop common_fields xs
    → record { kind = made; id = id; status = status; modified = modified; values = values; metadata = metadata } ≡ record_from kind xs metadata
record_is kind made xs values metadata id status modified k i s d v = rw (k, i, s, d, v) refl

-- the date of a fitting row is in range
pub own_moment : (r : Record) → IsFitting r → is_moment r.modified ≡ true
own_moment r h =
    let s = split r.kind (all_values r) h.values in
    rw (sym (ap (λ (vs : List (Option Value)). get_or vs 2 None) s.is)) at s.date
