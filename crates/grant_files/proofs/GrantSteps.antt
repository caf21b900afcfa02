-- The records of a file of grants, one by one.
use Rattle.std.proofs.Common.{◌≡◌, ◌≤◌, ◌<◌, ◌+◌, ℕ, suc, zero, Bool, true, false, List, [], ◌∷◌, ◌++◌, Result, Ok, Err}
use Rattle.std.proofs.Common.{IsUtf8, bytes_eq, length, map, nat_lt, not, take, refl, sym, ap, ◌∙◌, arith}
use Rattle.std.proofs.lemmas.Cmp.{nat_list_eq_equiv}
use Rattle.std.proofs.lemmas.Bool.Decides.{nat_tests}
use Rattle.std.proofs.lemmas.List.{length-take, length_push, map_push, take-append-le, take_all}
use Rattle.std.proofs.lemmas.Map.Keys.{IsDistinct-push}
use Rattle.std.proofs.lemmas.Str.{IsUtf8-from_is_utf8, is_utf8-from_IsUtf8}
use Rattle.std.specs.List.{IsDistinct}
use Rattle.std.specs.Prelude.{if◌then◌else◌}
use Rattle.std.specs.Str.{is_utf8}
use Rattle.csv.specs.Reading.{default_config, records, strip_bom}
use Rattle.csv_sets.proofs.RecordSteps.{text_behind}
use Rattle.csv_sets.specs.Left.{AllRowsText}
use Rattle.grant_files.specs.declared.fault.GrantFault.{GrantFault}
use Rattle.grant_files.specs.Grants.{entries_after, entries_below, entries_of, entries_with, entry_of, few, grants_of}
use Rattle.grant_files.specs.Grants.{new_in, stands_in}
use Rattle.grant_files.specs.declared.fault.GrantFault.TheVariants.{NotUtf8, TooMany}
use Rattle.grant_files.specs.declared.known.Known.{Known}
use Rattle.grant_files.specs.Known.{Knows, Stands}
use Rattle.grant_scopes.specs.declared.entry.GrantEntry.{GrantEntry}
use Rattle.grant_scopes.specs.declared.grant_list.GrantList.{GrantList}
use Rattle.grant_scopes.specs.Entries.{AreEntries, entry_caller, entry_token, grant_limit}
use Rattle.roster_base.specs.Reading.{Fails, Gives, ◌>>=◌}
use Rattle.roster_base.specs.declared.refusal.Refusal.{Refusal}
use Rattle.roster_base.specs.declared.refusal.Refusal.TheVariants as refusal

take_twice : {A : Type 0} (n : ℕ) (xs : List A) (x : A) → take n (take n xs ++ x ∷ []) ≡ take n (xs ++ x ∷ [])
take_twice zero xs x = refl
take_twice (suc n) [] x = refl
take_twice (suc n) (y ∷ xs) x = ap (λ ys. y ∷ ys) (take_twice n xs x)

-- as many are kept as may be, so one more isn't
pub kept_full : (limit : ℕ) (kept : List GrantEntry) (entry : GrantEntry) → limit ≤ length kept → length kept ≤ limit → kept ≡ take limit (kept ++ entry ∷ [])
kept_full limit kept entry full few = sym (take-append-le limit kept (entry ∷ []) full ∙ take_all limit kept few)

pub kept_more : (limit : ℕ) (kept : List GrantEntry) (entry : GrantEntry) → length kept < limit → kept ++ entry ∷ [] ≡ take limit (kept ++ entry ∷ [])
kept_more limit kept entry room = sym (take_all limit (kept ++ entry ∷ []) (omega (arith, length_push kept entry)))

-- what a record leads to, by its fault or its grant
pub adds_none : (front : List GrantEntry) (number : ℕ) (cells : List (List ℕ)) (e : Refusal GrantFault) → Fails e (entry_of number cells) → Fails e (entries_with front number cells)
unfolding entries_with
adds_none front number cells refusal.NoMemory h = tt
adds_none front number cells (refusal.Fault f) h = rw h refl

pub adds_stood : (front : List GrantEntry) (number : ℕ) (cells : List (List ℕ)) (entry : GrantEntry) (e : Refusal GrantFault) → entry_of number cells ≡ Ok entry
    → Fails e (new_in number (stands_in entry.caller (map entry_caller front)) (stands_in entry.token (map entry_token front))) → Fails e (entries_with front number cells)
unfolding entries_with
adds_stood front number cells entry refusal.NoMemory read h = tt
adds_stood front number cells entry (refusal.Fault f) read h = rw (read, h) refl

pub adds_one : (front : List GrantEntry) (number : ℕ) (cells : List (List ℕ)) (entry : GrantEntry) → entry_of number cells ≡ Ok entry
    → new_in number (stands_in entry.caller (map entry_caller front)) (stands_in entry.token (map entry_token front)) ≡ Ok true → entries_with front number cells ≡ Ok (front ++ entry ∷ [])
unfolding entries_with
adds_one front number cells entry read new = rw (read, new) refl

pub stands_more : {known known' : Known} {kept kept' front : List GrantEntry} (entry : GrantEntry) → Stands known kept front → Knows known' (front ++ entry ∷ []) → kept' ≡ take grant_limit (kept ++ entry ∷ [])
    → Stands known' kept' (front ++ entry ∷ [])
stands_more {front = front} entry s k is = record { knows = k; taken = is ∙ rw s.taken (take_twice grant_limit front entry) }

pushed : (front : List GrantEntry) (entry : GrantEntry) (more : List GrantEntry) (new : Result Bool GrantFault) → (new >>= (λ n. Ok (front ++ entry ∷ []))) ≡ Ok more → length more ≡ length front + 1
pushed front entry more (Ok n) e = let is : front ++ entry ∷ [] ≡ more = cc e in rw (← is) (length_push front entry)
pushed front entry more (Err f) e = cc e

one_more : (front : List GrantEntry) (number : ℕ) (cells : List (List ℕ)) (more : List GrantEntry) → entries_with front number cells ≡ Ok more → length more ≡ length front + 1
unfolding entries_with
one_more front number cells more e = by (entry_of number cells) e
  where
    by : (read : Result GrantEntry GrantFault)
        → (read >>= (λ entry. new_in number (stands_in entry.caller (map entry_caller front)) (stands_in entry.token (map entry_token front)) >>= (λ new. Ok (front ++ entry ∷ [])))) ≡ Ok more
        → length more ≡ length front + 1
    by (Ok entry) e = pushed front entry more (new_in number (stands_in entry.caller (map entry_caller front)) (stands_in entry.token (map entry_token front))) e
    by (Err f) e = cc e

-- how far the reading has come: the records that are left lead to the whole answer
pub record Leads (known : Known) (kept : List GrantEntry) (number : ℕ) (left whole : List (List (List ℕ))) : Type 0 where
  pub front : List GrantEntry
  pub same : entries_after front number left ≡ entries_after [] 2 whole
  pub stands : Stands known kept front
  pub text : AllRowsText left
  pub count : number + length left ≡ 2 + length whole
  pub number_is : number ≡ 2 + length front

pub leads_start : (known : Known) (whole : List (List (List ℕ))) → Knows known [] → AllRowsText whole → Leads known [] 2 whole whole
leads_start known whole k text = record { front = []; same = refl; stands = record { knows = k; taken = refl }; text = text; count = refl; number_is = refl }

pub few_kept : {known : Known} {kept : List GrantEntry} {number : ℕ} {left whole : List (List (List ℕ))} → Leads known kept number left whole → length kept ≤ grant_limit
few_kept {kept = kept} l = rw l.stands.taken (omega (arith, length-take grant_limit l.front))

pub leads_fail : {known : Known} {kept : List GrantEntry} {number : ℕ} {left whole : List (List (List ℕ))} (cells : List (List ℕ)) (new : List (List (List ℕ))) (e : Refusal GrantFault)
    (l : Leads known kept number left whole) → left ≡ cells ∷ new → Fails e (entries_with l.front number cells) → Fails e (entries_below whole)
unfolding entries_after entries_below
leads_fail cells new refusal.NoMemory l d h = tt
leads_fail cells new (refusal.Fault f) l d h = rw (sym l.same, d, h) refl

pub leads_on : {known known' : Known} {kept kept' : List GrantEntry} {number : ℕ} {left whole : List (List (List ℕ))} (cells : List (List ℕ)) (new : List (List (List ℕ))) (more : List GrantEntry)
    (l : Leads known kept number left whole) → left ≡ cells ∷ new → entries_with l.front number cells ≡ Ok more → Stands known' kept' more → Leads known' kept' (number + 1) new whole
unfolding entries_after
leads_on {number = number} {left} cells new more l d h s = record {
  front = more;
  same = rw (d, h) at l.same;
  stands = s;
  text = text_behind left cells new d l.text;
  count = omega (arith, ap length d, l.count);
  number_is = omega (arith, one_more l.front number cells more h, l.number_is);
}

pub leads_many : {known : Known} {kept : List GrantEntry} {number : ℕ} {left whole : List (List (List ℕ))} → Leads known kept number left whole → left ≡ [] → 10002 < number → entries_below whole ≡ Err TooMany
unfolding entries_after entries_below
leads_many l e many =
    let over : nat_lt grant_limit (length l.front) ≡ true = grind (arith, nat_tests, l.number_is) in
    rw (sym l.same, e, over) refl

pub leads_end : {known : Known} {kept : List GrantEntry} {number : ℕ} {left whole : List (List (List ℕ))} → Leads known kept number left whole → left ≡ [] → number ≤ 10002 → entries_below whole ≡ Ok kept
unfolding entries_after entries_below
leads_end l e short =
    let within : length l.front ≤ grant_limit = omega (arith, l.number_is) in
    let under : nat_lt grant_limit (length l.front) ≡ false = grind (arith, nat_tests) in
    rw (sym l.same, e, under) (ap Ok (sym (l.stands.taken ∙ take_all grant_limit l.front within)))

-- grants of which no two are of one caller and no two have one token
pub record AreApart (entries : List GrantEntry) : Type 0 where
  pub callers : IsDistinct bytes_eq (map entry_caller entries)
  pub tokens : IsDistinct bytes_eq (map entry_token entries)

none_apart : AreApart []
unfolding IsDistinct
none_apart = record { callers = tt; tokens = tt }

apart_push : (front : List GrantEntry) (number : ℕ) (entry : GrantEntry) (more : List GrantEntry) → AreApart front → (caller_stood token_stood : Bool)
    → stands_in entry.caller (map entry_caller front) ≡ caller_stood → stands_in entry.token (map entry_token front) ≡ token_stood
    → (new_in number caller_stood token_stood >>= (λ new. Ok (front ++ entry ∷ []))) ≡ Ok more → AreApart more
apart_push front number entry more a true t c k e = cc e
apart_push front number entry more a false true c k e = cc e
apart_push front number entry more a false false c k e =
    let is : front ++ entry ∷ [] ≡ more = cc e in
    rw (← is) (record {
      callers = rw (map_push entry_caller front entry) (IsDistinct-push nat_list_eq_equiv (map entry_caller front) entry.caller a.callers c);
      tokens = rw (map_push entry_token front entry) (IsDistinct-push nat_list_eq_equiv (map entry_token front) entry.token a.tokens k);
    })

apart_with : (front : List GrantEntry) (number : ℕ) (cells : List (List ℕ)) (more : List GrantEntry) → AreApart front → entries_with front number cells ≡ Ok more → AreApart more
unfolding entries_with
apart_with front number cells more a e = by (entry_of number cells) e
  where
    by : (read : Result GrantEntry GrantFault)
        → (read >>= (λ entry. new_in number (stands_in entry.caller (map entry_caller front)) (stands_in entry.token (map entry_token front)) >>= (λ new. Ok (front ++ entry ∷ [])))) ≡ Ok more
        → AreApart more
    by (Ok entry) e = apart_push front number entry more a (stands_in entry.caller (map entry_caller front)) (stands_in entry.token (map entry_token front)) refl refl e
    by (Err f) e = cc e

apart_after : (front : List GrantEntry) (number : ℕ) (left : List (List (List ℕ))) (entries : List GrantEntry) → AreApart front → entries_after front number left ≡ Ok entries → AreApart entries
unfolding entries_after
apart_after front number [] entries a e = let is : front ≡ entries = cc e in rw (← is) a
apart_after front number (cells ∷ rest) entries a e =
    by (entries_with front number cells) (apart_with front number cells) (λ more. apart_after more (number + 1) rest entries) e
  where
    by : (read : Result (List GrantEntry) GrantFault) → ((more : List GrantEntry) → AreApart front → read ≡ Ok more → AreApart more)
        → ((more : List GrantEntry) → AreApart more → entries_after more (number + 1) rest ≡ Ok entries → AreApart entries)
        → (read >>= (λ more. entries_after more (number + 1) rest)) ≡ Ok entries → AreApart entries
    by (Ok more) apart on e = on more (apart more a refl) e
    by (Err f) apart on e = cc e

few_good : (entries kept : List GrantEntry) → AreApart entries → few entries ≡ Ok kept → AreEntries kept
few_good entries kept a e = by (nat_lt grant_limit (length entries)) refl e
  where
    by : (over : Bool) → nat_lt grant_limit (length entries) ≡ over → (if over then Err TooMany else Ok entries) ≡ Ok kept → AreEntries kept
    by true o e = cc e
    by false o e =
        let is : entries ≡ kept = cc e in
        let short : length entries ≤ grant_limit = grind (arith, nat_tests) in
        rw (← is) (record { callers = a.callers; tokens = a.tokens; few = short })

-- the grants of records are grants that may be asked for
pub entries_good : (left : List (List (List ℕ))) (kept : List GrantEntry) → entries_below left ≡ Ok kept → AreEntries kept
unfolding entries_below
entries_good left kept e = by (entries_after [] 2 left) (λ entries. apart_after [] 2 left entries none_apart) e
  where
    by : (read : Result (List GrantEntry) GrantFault) → ((entries : List GrantEntry) → read ≡ Ok entries → AreApart entries) → (read >>= few) ≡ Ok kept → AreEntries kept
    by (Ok entries) apart e = few_good entries kept (apart entries refl) e
    by (Err f) apart e = cc e

-- a file of text asks for the grants of its records
pub text_file : (bytes text : List ℕ) (r : Result GrantList (Refusal GrantFault)) → text ≡ bytes → IsUtf8 bytes
    → Gives (λ list. list) r (entries_of (records default_config (strip_bom text))) → Gives (λ list. list) r (grants_of bytes)
unfolding grants_of
text_file bytes text r same u g = rw (is_utf8-from_IsUtf8 bytes u) (rw same at g)

-- a file that is no text
pub other_file : (bytes : List ℕ) → ¬ IsUtf8 bytes → grants_of bytes ≡ Err NotUtf8
unfolding grants_of
other_file bytes h = by (is_utf8 bytes) refl
  where
    by : (b : Bool) → is_utf8 bytes ≡ b → (if not b then Err NotUtf8 else entries_of (records default_config (strip_bom bytes))) ≡ Err NotUtf8
    by true e = absurd (h (IsUtf8-from_is_utf8 bytes e))
    by false e = refl
