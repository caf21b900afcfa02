-- What it means that the entries of a page are taken, and that a kind is closed.
use Rattle.std.proofs.Common.{◌≡◌, ◌+◌, ◌-◌, ◌≤◌, ℕ, Bool, true, false, List, length, Option, Some, None, Result, Ok}
use Rattle.std.proofs.Common.{Err, refl, sym, ap, ◌∙◌, arith, min, not}
use Rattle.std.specs.Prelude.{◌==◌, ◌&&◌, nat_lt, if◌then◌else◌}
use Rattle.std.proofs.lemmas.Bool.{and_parts, both_ways}
use Rattle.std.proofs.lemmas.Bool.Decides.{nat_tests}
use Rattle.std.proofs.lemmas.Option.{same_Some}
use Rattle.keeper_memory.specs.copy.Lists.{ascends, last_from}
use Rattle.http_wire.specs.declared.reply_reading.WireReply.{WireReply}
use Rattle.roster_types.specs.Records.{Record}
use Rattle.row_json.specs.Deltas.{gone_of}
use Rattle.row_json.specs.Reading.{rows_of}
use Rattle.row_json.specs.declared.fault.JsonFault.{JsonFault}
use Rattle.consumer_deltas.specs.DeltaJudging.{Sofar, base_act, closed_act, count_in, delta_judged, differing_act}
use Rattle.consumer_deltas.specs.DeltaJudging.{entries_from, entries_of, entry_limit, fits_held, ids_ascend, last_id}
use Rattle.consumer_deltas.specs.DeltaJudging.{lost_act, page_act, part_act, read_act, with_page}
use Rattle.consumer_sync.specs.Judging.{agrees}
use Rattle.consumer_deltas.specs.declared.gathered.Entries.{Entries}
use Rattle.consumer_deltas.specs.declared.judging.DeltaAct.{DeltaAct}
use Rattle.consumer_deltas.specs.declared.judging.DeltaAct.TheVariants as act
use Rattle.consumer_deltas.specs.declared.judging.Place.{Place}

-- the act takes entries, or closes the kind
pub goes_on : DeltaAct → Bool
goes_on (act.Take pin page total) = true
goes_on (act.Close pin) = true
goes_on a = false

-- any other act ends the pages
pub ends_not : (x : DeltaAct) → ((pin : ℕ) (page : Entries) (total : ℕ) → x ≡ act.Take pin page total → ⊥) → ((pin : ℕ) → x ≡ act.Close pin → ⊥) → goes_on x ≡ false
unfolding goes_on
ends_not (act.Take pin page total) takes closes = absurd (takes pin page total refl)
ends_not (act.Close pin) takes closes = absurd (closes pin refl)
ends_not x takes closes = refl

module _ (x : DeltaAct) (on : goes_on x ≡ true) where
  -- a test that has to hold
  passed : (b : Bool) (y : DeltaAct) → (if not b then act.BadReply else y) ≡ x → (b ≡ true) × (y ≡ x)
  unfolding goes_on
  passed true y e = (refl, e)
  passed false y e = let bad : goes_on act.BadReply ≡ true = ap goes_on e ∙ on in cc

  not_large : (b : Bool) (t : ℕ) (y : DeltaAct) → (if b then act.TooLarge t else y) ≡ x → (b ≡ false) × (y ≡ x)
  unfolding goes_on
  not_large false t y e = (refl, e)
  not_large true t y e = let bad : goes_on (act.TooLarge t) ≡ true = ap goes_on e ∙ on in cc

stops : (b : Bool) (x y : DeltaAct) → goes_on x ≡ false → goes_on y ≡ false → goes_on (if b then x else y) ≡ false
stops true x y e f = e
stops false x y e f = f

base_stops : (base oldest : ℕ) → goes_on (base_act base oldest) ≡ false
unfolding goes_on
base_stops base oldest = stops (nat_lt base oldest) (act.BaseGone oldest) act.BadReply refl refl

lost_stops : (base : ℕ) (pin oldest : Option ℕ) → goes_on (lost_act base pin oldest) ≡ false
unfolding goes_on
lost_stops base pin None = refl
lost_stops base None (Some oldest) = base_stops base oldest
lost_stops base (Some pin) (Some oldest) = stops (nat_lt pin oldest) (act.PinGone pin oldest) (base_act base oldest) refl (base_stops base oldest)

-- what any other status means
abbrev others : Place → WireReply → ℕ → DeltaAct
others place w status =
    if status == 404 then lost_act place.base place.pin w.oldest
    else if status == 401 then act.UnknownToken
    else if status == 500 then act.HubFault
    else if status == 503 then act.HubNoMemory
    else act.BadReply

abbrev behind_differing : Place → WireReply → ℕ → DeltaAct
behind_differing place w status = if status == 403 then closed_act place.pin place.is_fresh w.version else others place w status

-- any other status ends the pages
others_stop : (place : Place) (w : WireReply) (status : ℕ) → goes_on (others place w status) ≡ false
unfolding goes_on
others_stop place w status =
    stops (status == 404) (lost_act place.base place.pin w.oldest) _ (lost_stops place.base place.pin w.oldest)
    (stops (status == 401) act.UnknownToken _ refl (stops (status == 500) act.HubFault _ refl (stops (status == 503) act.HubNoMemory act.BadReply refl refl)))

-- the entries of a page that follow those that came
pub record IsPart (place : Place) (sofar : Sofar) (w : WireReply) (pin : ℕ) (page : Entries) (total : ℕ) : Type 0 where
  pub status : w.status ≡ 200
  pub version : w.version ≡ Some pin
  pub told : w.total ≡ Some total
  pub rows : rows_of place.kind w.body ≡ Ok page.puts
  pub ids : gone_of w.body ≡ Ok page.gone
  pub pinned : agrees place.pin pin ≡ true
  pub few : total ≤ entry_limit
  pub same : agrees sofar.total total ≡ true
  pub count : length page.puts + length page.gone ≡ min place.limit (total - count_in sofar)
  pub puts : ascends (last_from None sofar.puts) page.puts ≡ true
  pub gone : ids_ascend (last_id None sofar.gone) page.gone ≡ true
  pub fits : fits_held place.kind (with_page sofar page total) ≡ true

pub record IsClosed (place : Place) (w : WireReply) (pin : ℕ) : Type 0 where
  pub status : w.status ≡ 403
  pub version : w.version ≡ Some pin
  pub pinned : agrees place.pin pin ≡ true
  pub fresh : place.is_fresh ≡ true

abbrev takes : ℕ → Entries → ℕ → DeltaAct
takes pin page total = act.Take pin page total

pub takes_on : (pin : ℕ) (page : Entries) (total : ℕ) → goes_on (takes pin page total) ≡ true
unfolding goes_on
takes_on pin page total = refl

same_take : (v t : ℕ) (read : Entries) (pin total : ℕ) (page : Entries) → act.Take v read t ≡ act.Take pin page total → (v ≡ pin) × (read ≡ page) × (t ≡ total)
same_take v t read pin total page e = (cc, cc, cc)

take_not_close : (v t : ℕ) (read : Entries) (pin : ℕ) → act.Take v read t ≡ act.Close pin → ⊥
take_not_close v t read pin e = cc

pub closes_on : (pin : ℕ) → goes_on (act.Close pin) ≡ true
unfolding goes_on
closes_on pin = refl

-- a kind that isn't opened gives no entries
closed_none : (pin : Option ℕ) (is_fresh : Bool) (version : Option ℕ) (at : ℕ) (page : Entries) (total : ℕ) → closed_act pin is_fresh version ≡ takes at page total → ⊥
closed_none pin is_fresh None at page total e = cc
closed_none pin is_fresh (Some v) at page total e =
    elim (agrees pin v && is_fresh) as (λ b. (if b then act.Close v else act.BadReply) ≡ takes at page total → ⊥) [ true ↦ λ d. cc | false ↦ λ d. cc ] e

none_taken : (place : Place) (w : WireReply) (status pin : ℕ) (page : Entries) (total : ℕ) → behind_differing place w status ≡ takes pin page total → ⊥
none_taken place w status pin page total e =
    elim (status == 403) as (λ b. (if b then closed_act place.pin place.is_fresh w.version else others place w status) ≡ takes pin page total → ⊥) [
      | true ↦ λ d. closed_none place.pin place.is_fresh w.version pin page total d
      | false ↦ λ d. let stop : goes_on (takes pin page total) ≡ false = ap goes_on (sym d) ∙ others_stop place w status in both_ways (goes_on (takes pin page total)) stop (takes_on pin page total)
    ] e

entries_read : (rows : Result (List Record) JsonFault) (ids : Result (List (List ℕ)) JsonFault) (page : Entries) → entries_from rows ids ≡ Some page → (rows ≡ Ok page.puts) × (ids ≡ Ok page.gone)
entries_read (Err fault) ids page e = cc
entries_read (Ok puts) (Err fault) page e = cc
entries_read (Ok puts) (Ok gone) page e =
    let same = same_Some _ _ e in
    (ap (λ (p : Entries). let r : Result (List Record) JsonFault = Ok p.puts in r) same, ap (λ (p : Entries). let r : Result (List (List ℕ)) JsonFault = Ok p.gone in r) same)

module _ (place : Place) (sofar : Sofar) (w : WireReply) (pin : ℕ) (page : Entries) (total : ℕ) where
  part_is : (v t : ℕ) (read : Entries) → w.status ≡ 200 → w.version ≡ Some v → w.total ≡ Some t → rows_of place.kind w.body ≡ Ok read.puts → gone_of w.body ≡ Ok read.gone → agrees place.pin v ≡ true → t ≤ entry_limit → agrees sofar.total t ≡ true
      → part_act place.kind sofar place.limit v t read ≡ takes pin page total → IsPart place sofar w pin page total
  part_is v t read status version told rows ids pinned few same e =
      let a = passed (takes pin page total) (takes_on pin page total) (length read.puts + length read.gone == min place.limit (t - count_in sofar)) _ e in
      let b = passed (takes pin page total) (takes_on pin page total) (ascends (last_from None sofar.puts) read.puts) _ a.1 in
      let c = passed (takes pin page total) (takes_on pin page total) (ids_ascend (last_id None sofar.gone) read.gone) _ b.1 in
      let d = passed (takes pin page total) (takes_on pin page total) (fits_held place.kind (with_page sofar read t)) _ c.1 in
      let (same_pin, same_page, same_total) = same_take v t read pin total page d.1 in
      let count : length read.puts + length read.gone ≡ min place.limit (t - count_in sofar) = grind (arith, nat_tests, a.0) in
      record {
        status = status;
        version = version ∙ ap Some same_pin;
        told = told ∙ ap Some same_total;
        rows = rows ∙ ap (λ (p : Entries). let r : Result (List Record) JsonFault = Ok p.puts in r) same_page;
        ids = ids ∙ ap (λ (p : Entries). let r : Result (List (List ℕ)) JsonFault = Ok p.gone in r) same_page;
        pinned = sym (ap (agrees place.pin) same_pin) ∙ pinned;
        few = omega (arith, few, same_total);
        same = sym (ap (agrees sofar.total) same_total) ∙ same;
        count = sym (ap (λ (p : Entries). length p.puts + length p.gone) same_page) ∙ count ∙ ap (λ (n : ℕ). min place.limit (n - count_in sofar)) same_total;
        puts = sym (ap (λ (p : Entries). ascends (last_from None sofar.puts) p.puts) same_page) ∙ b.0;
        gone = sym (ap (λ (p : Entries). ids_ascend (last_id None sofar.gone) p.gone) same_page) ∙ c.0;
        fits = sym (λ i. fits_held place.kind (with_page sofar (same_page i) (same_total i))) ∙ d.0;
      }

  read_is : (v t : ℕ) (o : Option Entries) → w.status ≡ 200 → w.version ≡ Some v → w.total ≡ Some t → entries_of place.kind w.body ≡ o → agrees place.pin v ≡ true → t ≤ entry_limit → agrees sofar.total t ≡ true
      → read_act place.kind sofar place.limit v t o ≡ takes pin page total → IsPart place sofar w pin page total
  read_is v t None status version told is pinned few same e = cc
  read_is v t (Some read) status version told is pinned few same e =
      let both = entries_read (rows_of place.kind w.body) (gone_of w.body) read is in
      part_is v t read status version told both.0 both.1 pinned few same e

  page_is : (v t : ℕ) → w.status ≡ 200 → w.version ≡ Some v → w.total ≡ Some t → page_act place.kind sofar place.pin place.limit v t w.body ≡ takes pin page total → IsPart place sofar w pin page total
  page_is v t status version told e =
      let on = takes_on pin page total in
      let a = passed (takes pin page total) on (agrees place.pin v) _ e in
      let b = not_large (takes pin page total) on (nat_lt entry_limit t) t _ a.1 in
      let c = passed (takes pin page total) on (agrees sofar.total t) _ b.1 in
      let few : t ≤ entry_limit = grind (arith, nat_tests, b.0) in
      read_is v t (entries_of place.kind w.body) status version told refl a.0 few c.0 c.1

  differing_is : (version told : Option ℕ) → w.status ≡ 200 → w.version ≡ version → w.total ≡ told → differing_act place.kind sofar place.pin place.limit version told w.body ≡ takes pin page total → IsPart place sofar w pin page total
  differing_is None told status is_version is_total e = cc
  differing_is (Some v) None status is_version is_total e = cc
  differing_is (Some v) (Some t) status is_version is_total e = page_is v t status is_version is_total e

  -- what is taken is a part of a delta
  pub part_taken : delta_judged place sofar w ≡ takes pin page total → IsPart place sofar w pin page total
  part_taken e =
      elim (w.status == 200) as (λ b. (w.status == 200) ≡ b → (if b then differing_act place.kind sofar place.pin place.limit w.version w.total w.body else behind_differing place w w.status) ≡ takes pin page total → IsPart place sofar w pin page total) [
        | true ↦ λ s d. let status : w.status ≡ 200 = grind (arith, nat_tests, s) in differing_is w.version w.total status refl refl d
        | false ↦ λ _ d. absurd (none_taken place w w.status pin page total d)
      ] refl e

module _ (place : Place) (sofar : Sofar) (w : WireReply) (pin : ℕ) where
  none_closes : (version told : Option ℕ) → differing_act place.kind sofar place.pin place.limit version told w.body ≡ act.Close pin → ⊥
  none_closes None told e = cc
  none_closes (Some v) None e = cc
  none_closes (Some v) (Some t) e =
      let on = closes_on pin in
      let a = passed (act.Close pin) on (agrees place.pin v) _ e in
      let b = not_large (act.Close pin) on (nat_lt entry_limit t) t _ a.1 in
      let c = passed (act.Close pin) on (agrees sofar.total t) _ b.1 in
      of_read (entries_of place.kind w.body) c.1
    where
      of_part : (read : Entries) → part_act place.kind sofar place.limit v t read ≡ act.Close pin → ⊥
      of_part read e =
          let on = closes_on pin in
          let a = passed (act.Close pin) on (length read.puts + length read.gone == min place.limit (t - count_in sofar)) _ e in
          let b = passed (act.Close pin) on (ascends (last_from None sofar.puts) read.puts) _ a.1 in
          let c = passed (act.Close pin) on (ids_ascend (last_id None sofar.gone) read.gone) _ b.1 in
          let d = passed (act.Close pin) on (fits_held place.kind (with_page sofar read t)) _ c.1 in
          take_not_close v t read pin d.1

      of_read : (o : Option Entries) → read_act place.kind sofar place.limit v t o ≡ act.Close pin → ⊥
      of_read None e = cc
      of_read (Some read) e = of_part read e

  closed_is : (version : Option ℕ) → w.status ≡ 403 → w.version ≡ version → closed_act place.pin place.is_fresh version ≡ act.Close pin → IsClosed place w pin
  closed_is None status is e = cc
  closed_is (Some v) status is e =
      elim (agrees place.pin v && place.is_fresh) as (λ b. (agrees place.pin v && place.is_fresh) ≡ b → (if b then act.Close v else act.BadReply) ≡ act.Close pin → IsClosed place w pin) [
        | true ↦ λ t d.
            let same : v ≡ pin = cc in
            let both = and_parts (agrees place.pin v) place.is_fresh t in
            record { status = status; version = is ∙ ap Some same; pinned = sym (ap (agrees place.pin) same) ∙ both.0; fresh = both.1 }
        | false ↦ λ _ d. cc
      ] refl e

  -- a kind that is closed is one that the hub doesn't open
  pub closed_taken : delta_judged place sofar w ≡ act.Close pin → IsClosed place w pin
  closed_taken e =
      elim (w.status == 200) as (λ b. (if b then differing_act place.kind sofar place.pin place.limit w.version w.total w.body else behind_differing place w w.status) ≡ act.Close pin → IsClosed place w pin) [
        | true ↦ λ d. absurd (none_closes w.version w.total d)
        | false ↦ λ d. elim (w.status == 403) as (λ b. (w.status == 403) ≡ b → (if b then closed_act place.pin place.is_fresh w.version else others place w w.status) ≡ act.Close pin → IsClosed place w pin) [
          | true ↦ λ s f. let status : w.status ≡ 403 = grind (arith, nat_tests, s) in closed_is w.version status refl f
          | false ↦ λ _ f. let stop : goes_on (act.Close pin) ≡ false = ap goes_on (sym f) ∙ others_stop place w w.status in absurd (both_ways (goes_on (act.Close pin)) stop (closes_on pin))
        ] refl d
      ] e
