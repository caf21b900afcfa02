-- The agreement on marks is kept by all traffic, by new entries, and by settling an entry as its mark is shown.
use Rattle.std.proofs.Common.{◌≡◌, ◌+◌, ◌≤◌, inl, inr, ⊎_elim, ℕ, Bool, true, false, cond, List, [], ◌∷◌, ◌++◌, Option}
use Rattle.std.proofs.Common.{None, Some, refl, sym, ap, subst, ◌∙◌, arith}
use Rattle.std.specs.Prelude.{IfSome, is_none, is_some}
use Rattle.std.specs.List.{AllByRecursion}
use Rattle.keeper_memory.specs.copy.Changes.{settled_first}
use Rattle.keeper_memory.specs.copy.Copies.{first_unsettled}
use Rattle.keeper_memory.specs.declared.copy.entry.OutEntry.{OutEntry}
use Rattle.keeper_memory.specs.declared.copy.entry.Settled.{Settled}
use Rattle.version_changes.proofs.Finding.{all_each, all_two}
use Rattle.hub_spec.specs.requests.Requests.{wanted_by}
use Rattle.hub_spec.specs.rules.Growth.{Grew}
use Rattle.hub_spec.specs.rules.Wanted.{Wanted, mark_number}
use Rattle.status_info.specs.declared.request.MarkField.TheVariants.{Nothing}
use Rattle.status_info.specs.declared.request.Request.{Request}
use Rattle.version_core.proofs.PutLemmas.{all_append}
use Rattle.version_core.specs.Grants.{grant_of}
use Rattle.version_core.specs.HubStates.{HubState}
use Rattle.version_core.specs.declared.change.BaseVersion.{BaseVersion}
use Rattle.version_core.specs.declared.mark.Write.{Write}
use Rattle.hub_spec.specs.marks.Agreement.{AllCarried, AllShown, GivesOnly, IsCaller, IsCarried, IsOfEntry, IsShown}
use Rattle.hub_spec.specs.marks.Agreement.{CarriesMark, GivesIfMarked, MarksAgree}
use Rattle.hub_spec.specs.marks.Marked.{Marked, mark_of, marked_at, marked_by, marked_in}

pub if_some : {X : Type 0} (P Q : X → Type 0) (o : Option X) → ((x : X) → P x → Q x) → IfSome o P → IfSome o Q
if_some P Q None f h = tt
if_some P Q (Some x) f h = f x h

pub if_two : {X : Type 0} (P Q R : X → Type 0) (o : Option X) → ((x : X) → P x → Q x → R x) → IfSome o P → IfSome o Q → IfSome o R
if_two P Q R None f h k = tt
if_two P Q R (Some x) f h k = f x h k

-- a request with no mark has no marked write
unmarked_at : (wanted : Wanted) (number : Option ℕ) → number ≡ None → marked_at wanted number wanted.path ≡ None
unmarked_at wanted None e = refl
unmarked_at wanted (Some n) e = cc

pub unmarked : (request : Request) → request.mark ≡ Nothing → marked_by request ≡ None
unfolding marked_in
unmarked request e = unmarked_at (wanted_by request) (mark_number request.mark) (ap mark_number e)

-- ---- traffic

module _ (caller : List ℕ) (a b : HubState) (grew : Grew a b) where
  -- what more versions give to one caller, fewer do
  gives_back : (token : Option (List ℕ)) → GivesOnly b token caller → GivesOnly a token caller
  gives_back None h = tt
  gives_back (Some word) h = λ number by lt e. h number by (omega (arith, lt, grew.longer)) (ap (λ (v : BaseVersion). grant_of word v.grants) (grew.same number lt) ∙ e)

  -- more versions and more requests leave fewer callers
  pub caller_back : (more sent : List Request) → IsCaller caller b (more ++ sent) → IsCaller caller a sent
  caller_back [] sent h = all_each (GivesIfMarked b caller) (GivesIfMarked a caller) sent
      (λ q. if_some (λ _. GivesOnly b q.token caller) (λ _. GivesOnly a q.token caller) (marked_by q) (λ m. gives_back q.token)) h
  caller_back (q ∷ more) sent h = caller_back more sent h.1

  -- a settled entry is shown in each later state
  shown_on : (e : OutEntry) (s : Settled) → IsShown a caller e s → IsShown b caller e s
  shown_on e s h = record { mark = h.mark; held = grew.marks caller e.number h.mark h.held; write = h.write; status = h.status; version = h.version }

  all_shown_on : (entries : List OutEntry) → AllShown a caller entries → AllShown b caller entries
  all_shown_on entries h = all_each (λ (e : OutEntry). IfSome e.settled (IsShown a caller e)) (λ e. IfSome e.settled (IsShown b caller e)) entries
      (λ e. if_some (IsShown a caller e) (IsShown b caller e) e.settled (shown_on e)) h

  module _ (entries : List OutEntry) (last : ℕ) where
    abbrev May : Marked → Type 0
    May m = IsOfEntry m entries × (m.number ≤ last)

    carried_on : (sent : List Request) → IsCaller caller b sent → AllCarried a caller entries last sent → AllCarried b caller entries last sent
    carried_on sent given h = all_two (GivesIfMarked b caller) (CarriesMark a caller entries last) (CarriesMark b caller entries last) sent
        (λ q. if_two (λ _. GivesOnly b q.token caller) (IsCarried a caller entries last q.token) (IsCarried b caller entries last q.token) (marked_by q)
        (λ m gives k. record { entry = k.entry; number = k.number; token = gives })) given h

    carried_more : (more sent : List Request) → IsCaller caller b (more ++ sent) → AllByRecursion (λ q. IfSome (marked_by q) May) more → AllCarried a caller entries last sent → AllCarried b caller entries last (more ++ sent)
    carried_more [] sent given may h = carried_on sent given h
    carried_more (q ∷ more) sent given may h = (
      if_two (λ _. GivesOnly b q.token caller) May (IsCarried b caller entries last q.token) (marked_by q) (λ m gives k. record { entry = k.0; number = k.1; token = gives }) given.0 may.0,
      carried_more more sent given.1 may.1 h,
    )

-- the requests added carry an entry that is settled or is the first that isn't, or no mark
pub traffic_keeps : (entries : List OutEntry) (last : ℕ) (a b : HubState) (more sent : List Request) → Grew a b
    → AllByRecursion (λ q. IfSome (marked_by q) (λ m. IsOfEntry m entries × (m.number ≤ last))) more → MarksAgree entries last a sent → MarksAgree entries last b (more ++ sent)
traffic_keeps entries last a b more sent grew may h caller given =
    let k = h caller (caller_back caller a b grew more sent given) in
    record { shown = all_shown_on caller a b grew entries k.shown; carried = carried_more caller a b grew entries last more sent given may k.carried }

unmarked_may : (P : Marked → Type 0) (more : List Request) → AllByRecursion (λ (q : Request). q.mark ≡ Nothing) more → AllByRecursion (λ q. IfSome (marked_by q) P) more
unmarked_may P more all = all_each (λ (q : Request). q.mark ≡ Nothing) (λ q. IfSome (marked_by q) P) more (λ q e. subst (λ o. IfSome o P) (sym (unmarked q e)) tt) all

-- requests without a mark keep the agreement
pub reads_keep : (entries : List OutEntry) (last : ℕ) (a b : HubState) (more sent : List Request) → Grew a b
    → AllByRecursion (λ (q : Request). q.mark ≡ Nothing) more → MarksAgree entries last a sent → MarksAgree entries last b (more ++ sent)
reads_keep entries last a b more sent grew all h = traffic_keeps entries last a b more sent grew (unmarked_may _ more all) h

-- ---- entering

of_entry_more : (m : Marked) (entries more : List OutEntry) → IsOfEntry m entries → IsOfEntry m (entries ++ more)
of_entry_more m [] more h = absurd h
of_entry_more m (e ∷ es) more h = ⊎_elim (λ (same : mark_of e ≡ m). inl same) (λ rest. inr (rest.0, of_entry_more m es more rest.1)) h

-- a new entry keeps the agreement
pub entering_keeps : (entries : List OutEntry) (last number : ℕ) (write : Write) (state : HubState) (sent : List Request) → number ≡ last + 1
    → MarksAgree entries last state sent → MarksAgree (entries ++ record { number = number; write = write; settled = None } ∷ []) number state sent
entering_keeps entries last number write state sent next h caller given =
    let k = h caller given in
    let new : OutEntry = record { number = number; write = write; settled = None } in
    record {
      shown = all_append (λ (e : OutEntry). IfSome e.settled (IsShown state caller e)) entries (new ∷ []) k.shown (tt, tt);
      carried = all_each (CarriesMark state caller entries last) (CarriesMark state caller (entries ++ new ∷ []) number) sent
          (λ q. if_some (IsCarried state caller entries last q.token) (IsCarried state caller (entries ++ new ∷ []) number q.token) (marked_by q)
          (λ m c. record { entry = of_entry_more m entries (new ∷ []) c.entry; number = omega (arith, c.number, next); token = c.token })) k.carried;
    }

-- ---- settling

-- the first entry that isn't settled may be sent
pub first_of_entry : (entries : List OutEntry) (entry : OutEntry) → first_unsettled entries ≡ Some entry → IsOfEntry (mark_of entry) entries
first_of_entry [] entry e = cc
first_of_entry (x ∷ xs) entry e = cases x.settled refl e (first_of_entry xs entry)
  where
    cases : (o : Option Settled) → x.settled ≡ o → cond (is_none o) (Some x) (first_unsettled xs) ≡ Some entry → (first_unsettled xs ≡ Some entry → IsOfEntry (mark_of entry) xs) → IsOfEntry (mark_of entry) (x ∷ xs)
    cases None is e rest = let same : x ≡ entry = cc in inl (ap mark_of same)
    cases (Some s) is e rest = inr (ap is_some is, rest e)

of_entry_settled : (m : Marked) (s : Settled) (entries : List OutEntry) → IsOfEntry m entries → IsOfEntry m (settled_first s entries)
of_entry_settled m s [] h = absurd h
of_entry_settled m s (x ∷ xs) h = cases (is_none x.settled) (of_entry_settled m s xs)
  where
    cases : (b : Bool) → (IsOfEntry m xs → IsOfEntry m (settled_first s xs)) → IsOfEntry m (cond b (record x { settled = Some s } ∷ xs) (x ∷ settled_first s xs))
    cases true more = ⊎_elim (λ (same : mark_of x ≡ m). inl same) (λ rest. inr (refl, rest.1)) h
    cases false more = ⊎_elim (λ (same : mark_of x ≡ m). inl same) (λ rest. inr (rest.0, more rest.1)) h

shown_settled : (state : HubState) (caller : List ℕ) (s : Settled) (entries : List OutEntry) (entry : OutEntry) → first_unsettled entries ≡ Some entry → IsShown state caller entry s
    → AllShown state caller entries → AllShown state caller (settled_first s entries)
shown_settled state caller s [] entry e shown h = tt
shown_settled state caller s (x ∷ xs) entry e shown h = cases (is_none x.settled) e (λ e. shown_settled state caller s xs entry e shown h.1)
  where
    cases : (b : Bool) → cond b (Some x) (first_unsettled xs) ≡ Some entry → (first_unsettled xs ≡ Some entry → AllShown state caller (settled_first s xs)) → AllShown state caller (cond b (record x { settled = Some s } ∷ xs) (x ∷ settled_first s xs))
    cases true e more =
        let same : entry ≡ x = cc in
        let k = subst (λ (y : OutEntry). IsShown state caller y s) same shown in
        (record { mark = k.mark; held = k.held; write = k.write; status = k.status; version = k.version }, h.1)
    cases false e more = (h.0, more e)

-- settling the first that isn't settled, as its mark is shown, keeps the agreement
pub settling_keeps : (s : Settled) (entries : List OutEntry) (entry : OutEntry) (last : ℕ) (state : HubState) (sent : List Request) → first_unsettled entries ≡ Some entry
    → ((caller : List ℕ) → IsCaller caller state sent → IsShown state caller entry s) → MarksAgree entries last state sent → MarksAgree (settled_first s entries) last state sent
settling_keeps s entries entry last state sent first shows h caller given =
    let k = h caller given in
    record {
      shown = shown_settled state caller s entries entry first (shows caller given) k.shown;
      carried = all_each (CarriesMark state caller entries last) (CarriesMark state caller (settled_first s entries) last) sent
          (λ q. if_some (IsCarried state caller entries last q.token) (IsCarried state caller (settled_first s entries) last q.token) (marked_by q)
          (λ m c. record { entry = of_entry_settled m s entries c.entry; number = c.number; token = c.token })) k.carried;
    }
