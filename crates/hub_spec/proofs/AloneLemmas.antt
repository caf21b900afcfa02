-- Where nobody else marks writes for a caller, no mark is held behind the first entry that isn't settled.
use Rattle.std.proofs.Common.{◌≡◌, ◌<◌, ◌⊎◌, inl, inr, ⊎_elim, ℕ, Bool, true, false, cond, List, [], ◌∷◌, Option, None}
use Rattle.std.proofs.Common.{Some, refl, ap, subst, ◌∙◌, arith}
use Rattle.std.specs.Prelude.{IfSome, IsSomeAnd, is_none, is_some, not}
use Rattle.std.specs.List.{AllByRecursion}
use Rattle.keeper_memory.specs.copy.Copies.{NumbersRise, first_unsettled}
use Rattle.keeper_memory.specs.declared.copy.entry.OutEntry.{OutEntry}
use Rattle.status_info.specs.declared.request.Request.{Request}
use Rattle.version_core.specs.HubStates.{HubState}
use Rattle.version_core.specs.Marks.{mark_at}
use Rattle.version_core.specs.declared.mark.MarkRow.{MarkRow}
use Rattle.hub_spec.specs.marks.Agreement.{AllCarried, IsCaller, IsCarried, IsOfEntry, MarksAgree}
use Rattle.hub_spec.specs.marks.Alone.{IsSentMark, NoMarkBehind, OnlySent}
use Rattle.hub_spec.specs.marks.Marked.{Marked, mark_of, marked_by}

abbrev IsMember : OutEntry → List OutEntry → Type 0
IsMember e [] = ⊥
IsMember e (x ∷ xs) = (x ≡ e) ⊎ IsMember e xs

all_members : (P : OutEntry → Type 0) (entries : List OutEntry) → ((e : OutEntry) → IsMember e entries → P e) → AllByRecursion P entries
all_members P [] f = tt
all_members P (x ∷ xs) f = (f x (inl refl), all_members P xs (λ e is. f e (inr is)))

above : (n : ℕ) (entries : List OutEntry) (e : OutEntry) → NumbersRise n entries → IsMember e entries → n < e.number
above n [] e rise is = absurd is
above n (x ∷ xs) e rise is = ⊎_elim
    (λ (same : x ≡ e). subst (λ (y : OutEntry). n < y.number) same rise.0)
    (λ (later : IsMember e xs). let more = above x.number xs e rise.1 later in let low = rise.0 in omega (arith, more, low)) is

settled_not : (b : Bool) → b ≡ true → not b ≡ true → ⊥
settled_not true e f = cc
settled_not false e f = cc

-- the mark's entry is the one of its number
first_by : (n : ℕ) (entries : List OutEntry) (e : OutEntry) (m : Marked) → NumbersRise n entries → IsMember e entries → is_none e.settled ≡ true → IsOfEntry m entries → m.number ≡ e.number → first_unsettled entries ≡ Some e
first_by n [] e m rise is yet of same = absurd is
first_by n (x ∷ xs) e m rise is yet of same = ⊎_elim
    (λ (here : x ≡ e). ap (λ b. cond b (Some x) (first_unsettled xs)) (ap (λ (y : OutEntry). is_none y.settled) here ∙ yet) ∙ ap (λ y. Some y) here)
    (λ (later : IsMember e xs). ⊎_elim
    (λ (named : mark_of x ≡ m). absurd (let low = above x.number xs e rise.1 later in let number = ap (λ (k : Marked). k.number) named in omega (arith, low, number, same)))
    (λ (rest : (is_some x.settled ≡ true) × IsOfEntry m xs). ap (λ b. cond (not b) (Some x) (first_unsettled xs)) rest.0 ∙ first_by x.number xs e m rise.1 later yet rest.1 same) of) is

-- the entry of a mark that was sent
sent_entry : (caller : List ℕ) (entries : List OutEntry) (last number : ℕ) (state : HubState) (sent : List Request) → IsSentMark number sent → AllCarried state caller entries last sent → (m : Marked) × (m.number ≡ number) × IsOfEntry m entries
sent_entry caller entries last number state [] is carried = absurd is
sent_entry caller entries last number state (q ∷ qs) is carried = ⊎_elim
    (λ (here : IsSomeAnd (marked_by q) (λ marked. marked.number ≡ number)). by (marked_by q) here carried.0)
    (λ (later : IsSentMark number qs). sent_entry caller entries last number state qs later carried.1) is
  where
    by : (o : Option Marked) → IsSomeAnd o (λ marked. marked.number ≡ number) → IfSome o (IsCarried state caller entries last q.token) → (m : Marked) × (m.number ≡ number) × IsOfEntry m entries
    by None h k = absurd h
    by (Some m) h k = (m, h, k.entry)

pub none_behind : (caller : List ℕ) (entries : List OutEntry) (last : ℕ) (state : HubState) (sent : List Request) → NumbersRise 0 entries → MarksAgree entries last state sent → IsCaller caller state sent → OnlySent caller state sent → NoMarkBehind state caller entries
none_behind caller entries last state sent rise agree given only =
    all_members (λ e. is_none e.settled ≡ true → (first_unsettled entries ≡ Some e) ⊎ (mark_at (caller, e.number) state.marks ≡ None)) entries
    (λ e is yet. by e is yet (mark_at (caller, e.number) state.marks) refl)
  where
    by : (e : OutEntry) → IsMember e entries → is_none e.settled ≡ true → (o : Option MarkRow) → mark_at (caller, e.number) state.marks ≡ o → (first_unsettled entries ≡ Some e) ⊎ (mark_at (caller, e.number) state.marks ≡ None)
    by e is yet None held = inr held
    by e is yet (Some mark) held =
        let found = sent_entry caller entries last e.number state sent (only e.number mark held) (agree caller given).carried in
        inl (first_by 0 entries e found.0 rise is yet found.2 found.1)
