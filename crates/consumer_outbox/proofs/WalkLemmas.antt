-- A walk over entries in the order of their numbers, and the entries as they are settled.
use Rattle.std.proofs.Common.{◌≡◌, ◌+◌, ◌-◌, ◌<◌, ◌≤◌, ℕ, Bool, true, false, cond, nat_lt, List, [], ◌∷◌, ◌++◌, length}
use Rattle.std.proofs.Common.{length-append, All, Option, Some, None, refl, sym, ◌∙◌, ap, subst, arith}
use Rattle.std.specs.Prelude.{MatchOption, filter, is_none}
use Rattle.std.specs.List.{AllByRecursion}
use Rattle.std.proofs.lemmas.Bool.Decides.{nat_tests}
use Rattle.std.proofs.lemmas.List.Elements.{All-head, All-tail}
use Rattle.keeper_memory.specs.copy.Changes.{settled_first}
use Rattle.keeper_memory.specs.copy.Copies.{NumbersRise, SettledFirst, entry_after, first_unsettled}
use Rattle.keeper_memory.specs.declared.copy.entry.OutEntry.{OutEntry}
use Rattle.keeper_memory.specs.declared.copy.entry.Settled.{Settled}
use Rattle.exchange_link.specs.Sent.{SettlesMore, settled_by, unsettled}
use Rattle.consumer_outbox.specs.Sends.{SettledTo}

false_true : {b : Bool} → b ≡ false → b ≡ true → ⊥
false_true e f = cc

-- a number that the walk has passed is that of a settled entry
passed : (at n : ℕ) (b : Bool) → nat_lt at n ≡ false → (b ≡ true → at < n) → b ≡ false
passed at n true below h = absurd (let lt = h refl in grind (arith, nat_tests))
passed at n false below h = refl

rise_above : (n : ℕ) (entries : List OutEntry) → NumbersRise n entries → SettledTo n entries
rise_above n [] rise = tt
rise_above n (e ∷ es) rise = ((λ _. rise.0), weaker e.number n es (let lt = rise.0 in omega (arith, lt)) (rise_above e.number es rise.1))
  where
    weaker : (m n : ℕ) (es : List OutEntry) → n ≤ m → SettledTo m es → SettledTo n es
    weaker m n [] le h = tt
    weaker m n (e ∷ es) le h = ((λ yet. let lt = h.0 yet in omega (arith, lt, le)), weaker m n es le h.1)

pub walk_begins : (entries : List OutEntry) → NumbersRise 0 entries → SettledTo 0 entries
walk_begins entries rise = rise_above 0 entries rise

-- no entry follows: all are settled
pub walk_ends : (at : ℕ) (entries : List OutEntry) → entry_after at entries ≡ None → SettledTo at entries → first_unsettled entries ≡ None
walk_ends at [] e to = refl
walk_ends at (x ∷ xs) e to = by (nat_lt at x.number) refl e (walk_ends at xs)
  where
    by : (t : Bool) → nat_lt at x.number ≡ t → cond t (Some x) (entry_after at xs) ≡ None → (entry_after at xs ≡ None → SettledTo at xs → first_unsettled xs ≡ None) → first_unsettled (x ∷ xs) ≡ None
    by true t e rest = cc
    by false t e rest = ap (λ b. cond b (Some x) (first_unsettled xs)) (passed at x.number (is_none x.settled) t to.0) ∙ rest e to.1

-- the entry that follows isn't settled: it is the first
pub walk_finds : (at : ℕ) (entries : List OutEntry) (entry : OutEntry) → entry_after at entries ≡ Some entry → entry.settled ≡ None → SettledTo at entries → first_unsettled entries ≡ Some entry
walk_finds at [] entry e free to = cc
walk_finds at (x ∷ xs) entry e free to = by (nat_lt at x.number) refl e (walk_finds at xs entry)
  where
    by : (t : Bool) → nat_lt at x.number ≡ t → cond t (Some x) (entry_after at xs) ≡ Some entry → (entry_after at xs ≡ Some entry → entry.settled ≡ None → SettledTo at xs → first_unsettled xs ≡ Some entry) → first_unsettled (x ∷ xs) ≡ Some entry
    by true t e rest =
        let same : x ≡ entry = cc in
        ap (λ b. cond b (Some x) (first_unsettled xs)) (ap (λ (y : OutEntry). is_none y.settled) same ∙ ap is_none free) ∙ ap (λ y. Some y) same
    by false t e rest = ap (λ b. cond b (Some x) (first_unsettled xs)) (passed at x.number (is_none x.settled) t to.0) ∙ rest e free to.1

-- it is settled: the walk goes on behind it
pub walk_goes : (n at : ℕ) (entries : List OutEntry) (entry : OutEntry) (s : Settled) → NumbersRise n entries → entry_after at entries ≡ Some entry → entry.settled ≡ Some s → SettledTo at entries → SettledTo entry.number entries
walk_goes n at [] entry s rise e done to = tt
walk_goes n at (x ∷ xs) entry s rise e done to = by (nat_lt at x.number) refl e (walk_goes x.number at xs entry s rise.1)
  where
    by : (t : Bool) → nat_lt at x.number ≡ t → cond t (Some x) (entry_after at xs) ≡ Some entry → (entry_after at xs ≡ Some entry → entry.settled ≡ Some s → SettledTo at xs → SettledTo entry.number xs) → SettledTo entry.number (x ∷ xs)
    by true t e rest =
        let same : x ≡ entry = cc in
        ((λ yet. absurd (let closed = ap (λ (y : OutEntry). is_none y.settled) same ∙ ap is_none done in cc)), subst (λ (y : OutEntry). SettledTo y.number xs) same (rise_above x.number xs rise.1))
    by false t e rest = ((λ yet. absurd (false_true (passed at x.number (is_none x.settled) t to.0) yet)), rest e done to.1)

abbrev AreOpen : List OutEntry → Type 0
AreOpen entries = All (λ (e : OutEntry). e.settled ≡ None) entries

-- among entries that aren't settled none is found that is
found_open : (at : ℕ) (entries : List OutEntry) (entry : OutEntry) → AreOpen entries → entry_after at entries ≡ Some entry → entry.settled ≡ None
found_open at [] entry free e = cc
found_open at (x ∷ xs) entry free e = by (nat_lt at x.number) e (found_open at xs entry (All-tail (λ (y : OutEntry). y.settled ≡ None) x xs free))
  where
    by : (t : Bool) → cond t (Some x) (entry_after at xs) ≡ Some entry → (entry_after at xs ≡ Some entry → entry.settled ≡ None) → entry.settled ≡ None
    by true e rest = let same : x ≡ entry = cc in subst (λ (y : OutEntry). y.settled ≡ None) same (All-head (λ (y : OutEntry). y.settled ≡ None) x xs free)
    by false e rest = rest e

-- where settled entries stand in front, all up to one that is settled are
pub settled_up_to : (n at : ℕ) (entries : List OutEntry) (entry : OutEntry) (s : Settled) → NumbersRise n entries → SettledFirst entries → entry_after at entries ≡ Some entry → entry.settled ≡ Some s → SettledTo entry.number entries
settled_up_to n at [] entry s rise front e done = tt
settled_up_to n at (x ∷ xs) entry s rise front e done = by (nat_lt at x.number) e x.settled refl front (settled_up_to x.number at xs entry s rise.1)
  where
    by : (t : Bool) → cond t (Some x) (entry_after at xs) ≡ Some entry → (o : Option Settled) → x.settled ≡ o → MatchOption o (AreOpen xs) (λ _. SettledFirst xs)
        → (SettledFirst xs → entry_after at xs ≡ Some entry → entry.settled ≡ Some s → SettledTo entry.number xs) → SettledTo entry.number (x ∷ xs)
    by true e o is front rest =
        let same : x ≡ entry = cc in
        ((λ yet. absurd (let closed = ap (λ (y : OutEntry). is_none y.settled) same ∙ ap is_none done in cc)), subst (λ (y : OutEntry). SettledTo y.number xs) same (rise_above x.number xs rise.1))
    by false e None is front rest = absurd (let free = found_open at xs entry front e in cc)
    by false e (Some t) is front rest = ((λ yet. absurd (let closed = ap is_none is in cc)), rest front e done)

-- behind the last number no entry follows
pub walk_over : (at last most : ℕ) (entries : List OutEntry) → most ≤ at → last ≤ most → All (λ (e : OutEntry). e.number ≤ last) entries → SettledTo at entries → first_unsettled entries ≡ None
walk_over at last most [] over le low to = refl
walk_over at last most (x ∷ xs) over le low to =
    ap (λ b. cond b (Some x) (first_unsettled xs)) (closed (is_none x.settled) to.0) ∙ walk_over at last most xs over le (All-tail (λ (e : OutEntry). e.number ≤ last) x xs low) to.1
  where
    closed : (b : Bool) → (b ≡ true → at < x.number) → b ≡ false
    closed true h = absurd (let lt = h refl in let few = All-head (λ (e : OutEntry). e.number ≤ last) x xs low in omega (arith, lt, few, over, le))
    closed false h = refl

-- once the first is settled, the others stand behind it
pub walk_settles : (n : ℕ) (s : Settled) (entries : List OutEntry) (entry : OutEntry) → NumbersRise n entries → first_unsettled entries ≡ Some entry → SettledTo entry.number (settled_first s entries)
walk_settles n s [] entry rise e = tt
walk_settles n s (x ∷ xs) entry rise e = by (is_none x.settled) refl e (walk_settles x.number s xs entry rise.1)
  where
    by : (t : Bool) → is_none x.settled ≡ t → cond t (Some x) (first_unsettled xs) ≡ Some entry → (first_unsettled xs ≡ Some entry → SettledTo entry.number (settled_first s xs)) → SettledTo entry.number (cond t (record x { settled = Some s } ∷ xs) (x ∷ settled_first s xs))
    by true t e rest =
        let same : x ≡ entry = cc in
        ((λ yet. absurd (let closed : false ≡ true = yet in cc)), subst (λ (y : OutEntry). SettledTo y.number xs) same (rise_above x.number xs rise.1))
    by false t e rest = ((λ yet. absurd (false_true t yet)), rest e)

-- ---- how many are settled

abbrev waiting : List OutEntry → List OutEntry
waiting entries = filter (λ (e : OutEntry). is_none e.settled) entries

fewer : (s : Settled) (entries : List OutEntry) → unsettled (settled_first s entries) ≡ unsettled entries - 1
fewer s [] = refl
fewer s (x ∷ xs) = by (is_none x.settled) refl (fewer s xs)
  where
    by : (t : Bool) → is_none x.settled ≡ t → unsettled (settled_first s xs) ≡ unsettled xs - 1 → unsettled (cond t (record x { settled = Some s } ∷ xs) (x ∷ settled_first s xs)) ≡ length (cond (is_none x.settled) (x ∷ waiting xs) (waiting xs)) - 1
    by true t rest = (let same : unsettled xs ≡ length (x ∷ waiting xs) - 1 = omega arith in same) ∙ ap (λ b. length (cond b (x ∷ waiting xs) (waiting xs)) - 1) (sym t)
    by false t rest = ap (λ b. length (cond b (x ∷ waiting (settled_first s xs)) (waiting (settled_first s xs)))) t ∙ rest ∙ ap (λ b. length (cond b (x ∷ waiting xs) (waiting xs)) - 1) (sym t)

fewer_by : (ss : List Settled) (entries : List OutEntry) → unsettled (settled_by ss entries) ≡ unsettled entries - length ss
fewer_by [] entries = omega arith
fewer_by (s ∷ ss) entries = fewer_by ss (settled_first s entries) ∙ ap (λ n. n - length ss) (fewer s entries) ∙ omega arith

some_left : (entries : List OutEntry) (entry : OutEntry) → first_unsettled entries ≡ Some entry → 0 < unsettled entries
some_left [] entry e = cc
some_left (x ∷ xs) entry e = by (is_none x.settled) e (some_left xs entry)
  where
    by : (t : Bool) → cond t (Some x) (first_unsettled xs) ≡ Some entry → (first_unsettled xs ≡ Some entry → 0 < unsettled xs) → 0 < length (cond t (x ∷ waiting xs) (waiting xs))
    by true e rest = omega arith
    by false e rest = rest e

pub settles_none : (entries : List OutEntry) → SettlesMore 0 entries entries
settles_none entries = record { settled = []; number = refl; enough = omega arith; entries = refl }

one_more : (ss : List Settled) (s : Settled) (entries : List OutEntry) → settled_by (ss ++ s ∷ []) entries ≡ settled_first s (settled_by ss entries)
one_more [] s entries = refl
one_more (x ∷ xs) s entries = one_more xs s (settled_first x entries)

-- so many may still be settled
pub settles_left : (n : ℕ) (before after : List OutEntry) (entry : OutEntry) → SettlesMore n before after → first_unsettled after ≡ Some entry → n < unsettled before
settles_left n before after entry x e =
    let left : 0 < unsettled before - length x.settled = subst (λ n. 0 < n) (ap unsettled x.entries ∙ fewer_by x.settled before) (some_left after entry e) in
    let number = x.number in
    omega (arith, left, number)

pub settles_next : (n : ℕ) (s : Settled) (before after : List OutEntry) (entry : OutEntry) → SettlesMore n before after → first_unsettled after ≡ Some entry → SettlesMore (n + 1) before (settled_first s after)
settles_next n s before after entry x e = record {
  settled = x.settled ++ s ∷ [];
  number = let number = x.number in omega (arith, length-append x.settled (s ∷ []), number);
  enough = let left = settles_left n before after entry x e in omega (arith, left);
  entries = ap (settled_first s) x.entries ∙ sym (one_more x.settled s before);
}

-- ---- what holds of those that aren't

module _ (P : OutEntry → Type 0) where
  abbrev pub OpenAre : List OutEntry → Type 0
  OpenAre entries = AllByRecursion (λ (entry : OutEntry). is_none entry.settled ≡ true → P entry) entries

  open_first : (s : Settled) (entries : List OutEntry) → OpenAre entries → OpenAre (settled_first s entries)
  open_first s [] h = tt
  open_first s (x ∷ xs) h = by (is_none x.settled) (open_first s xs)
    where
      by : (t : Bool) → (OpenAre xs → OpenAre (settled_first s xs)) → OpenAre (cond t (record x { settled = Some s } ∷ xs) (x ∷ settled_first s xs))
      by true rest = ((λ yet. absurd (let closed : false ≡ true = yet in cc)), h.1)
      by false rest = (h.0, rest h.1)

  pub open_by : (ss : List Settled) (entries : List OutEntry) → OpenAre entries → OpenAre (settled_by ss entries)
  open_by [] entries h = h
  open_by (s ∷ ss) entries h = open_by ss (settled_first s entries) (open_first s entries h)

  pub open_is : (entries : List OutEntry) (entry : OutEntry) → first_unsettled entries ≡ Some entry → OpenAre entries → P entry
  open_is [] entry e h = cc
  open_is (x ∷ xs) entry e h = by (is_none x.settled) refl e (open_is xs entry)
    where
      by : (t : Bool) → is_none x.settled ≡ t → cond t (Some x) (first_unsettled xs) ≡ Some entry → (first_unsettled xs ≡ Some entry → OpenAre xs → P entry) → P entry
      by true t e rest = let same : x ≡ entry = cc in subst P same (h.0 t)
      by false t e rest = rest e h.1

-- the first entry's number isn't above the last one
pub first_low : (last : ℕ) (entries : List OutEntry) (entry : OutEntry) → first_unsettled entries ≡ Some entry → All (λ (e : OutEntry). e.number ≤ last) entries → entry.number ≤ last
first_low last [] entry e low = cc
first_low last (x ∷ xs) entry e low = by (is_none x.settled) e (first_low last xs entry)
  where
    by : (t : Bool) → cond t (Some x) (first_unsettled xs) ≡ Some entry → (first_unsettled xs ≡ Some entry → All (λ (e : OutEntry). e.number ≤ last) xs → entry.number ≤ last) → entry.number ≤ last
    by true e rest = let same : x ≡ entry = cc in subst (λ (y : OutEntry). y.number ≤ last) same (All-head (λ (e : OutEntry). e.number ≤ last) x xs low)
    by false e rest = rest e (All-tail (λ (e : OutEntry). e.number ≤ last) x xs low)
