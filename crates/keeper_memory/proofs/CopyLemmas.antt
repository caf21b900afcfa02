-- A change that may be made leads from a copy to a copy.
use Rattle.std.proofs.Common.{◌≡◌, ◌+◌, ◌<◌, ◌≤◌, ℕ, zero, suc, Bool, true, false, List, [], ◌∷◌, ◌++◌, length, get_or}
use Rattle.std.proofs.Common.{Option, Some, None, refl, sym, ◌∙◌, ap, subst, arith}
use Rattle.std.proofs.lemmas.Bool.{and_from, and_parts}
use Rattle.std.specs.Prelude.{slice_get, nat_lt, Result, Ok, Err, OnOk, OnErr, IfSome, find, is_none, is_some}
use Rattle.std.specs.Prelude.{if◌then◌else◌, option_map, MatchOption, ⊤}
use Rattle.std.specs.List.{All}
use Rattle.std.specs.Option.{option_map_or}
use Rattle.std.proofs.lemmas.Bool.Decides.{nat_tests}
use Rattle.std.proofs.lemmas.List.Elements.{All-append, All-cons, All-head, All-nil, All-tail, All-weaker}
use Rattle.std.proofs.lemmas.Option.{same_Some}
use Rattle.keeper_memory.specs.copy.Changes.{AllDone, CanChange, CanPage, begun, copy_after, settled_first, stage_after}
use Rattle.keeper_memory.specs.copy.Changes.{swapped}
use Rattle.keeper_memory.specs.copy.Copies.{entry_after, held_list, AreEntries, Copy, Held, IsCopy, IsHeld, IsOutWrite}
use Rattle.keeper_memory.specs.copy.Copies.{IsStage, NumbersRise, SettledFirst, Stage}
use Rattle.keeper_memory.specs.copy.Lists.{AreLists, IsList, ascends, kind_count, last_from}
use Rattle.keeper_memory.specs.copy.States.{CanBe, CanBeEntry, CanBeStage, small_part, state_of}
use Rattle.keeper_memory.specs.copy.HeldCopy.{empty_copy}
use Rattle.roster_base.specs.declared.memory.NoMemory.{NoMemory}
use Rattle.keeper_memory.specs.declared.copy.change.CopyChange.{CopyChange}
use Rattle.keeper_memory.specs.declared.copy.change.CopyChange.TheVariants.{Run, Begin, Page, Drop, Swap, Enter, Settle}
use Rattle.keeper_memory.specs.declared.copy.entry.OutEntry.{OutEntry}
use Rattle.keeper_memory.specs.declared.copy.entry.Settled.{Settled}
use Rattle.keeper_memory.specs.declared.copy.state.TheConstants.{LAST}
use Rattle.roster_types.specs.Keys.{is_after}
use Rattle.roster_types.specs.Records.{Record}
use Rattle.roster_values.proofs.KindLaws.{kind_from_place, kind_there, place_below}
use Rattle.roster_values.specs.Kinds.{all_kinds, place_of_kind}
use Rattle.roster_values.specs.declared.kind.Kind.{Kind}
use Rattle.version_core.specs.declared.mark.Write.{Write}

-- ---- lists

ascends-append : (d : Option (List ℕ)) (xs ys : List Record) → ascends d xs ≡ true → ascends (last_from d xs) ys ≡ true → ascends d (xs ++ ys) ≡ true
ascends-append d [] ys e f = f
ascends-append d (x ∷ xs) ys e f = let b = and_parts (is_after d x.id) (ascends (Some x.id) xs) e in and_from _ _ b.0 (ascends-append (Some x.id) xs ys b.1 f)

pub list_more : (kind : Kind) (xs ys : List Record) → IsList kind xs → All (λ row. row.kind ≡ kind) ys → ascends (last_from None xs) ys ≡ true → IsList kind (xs ++ ys)
list_more kind xs ys x all up = record { kinds = All-append (λ row. row.kind ≡ kind) xs ys x.kinds all; ascend = ascends-append None xs ys x.ascend up }

pub no_list : (kind : Kind) → IsList kind []
no_list kind = record { kinds = All-nil (λ row. row.kind ≡ kind); ascend = refl }

lists_push : (kinds : List Kind) (lists : List (List Record)) (x : List Record) → length lists < length kinds → AreLists kinds lists
    → ((kind : Kind) → slice_get kinds (length lists) ≡ Some kind → IsList kind x) → AreLists kinds (lists ++ x ∷ [])
lists_push [] lists x lt are f = absurd (omega (arith, lt))
lists_push (k ∷ ks) [] x lt are f = (f k refl, tt)
lists_push (k ∷ ks) (l ∷ ls) x lt are f = (are.0, lists_push ks ls x (omega (arith, lt)) are.1 f)

pub lists_few : (kinds : List Kind) (lists : List (List Record)) → AreLists kinds lists → length lists ≤ length kinds
lists_few kinds [] are = omega arith
lists_few [] (l ∷ ls) are = absurd are
lists_few (k ∷ ks) (l ∷ ls) are = let le = lists_few ks ls are.1 in omega (arith, le)

nth_is : (kind other : Kind) (n : ℕ) → place_of_kind kind ≡ n → slice_get all_kinds n ≡ Some other → kind ≡ other
nth_is kind other n e f = same_Some _ _ (sym (kind_there kind) ∙ ap (slice_get all_kinds) e ∙ f)

-- the list of a kind that is held
pub nth_list : (kinds : List Kind) (lists : List (List Record)) (n : ℕ) (kind : Kind) → AreLists kinds lists → slice_get kinds n ≡ Some kind → IsList kind (get_or lists n [])
nth_list kinds [] n kind are e = no_list kind
nth_list [] (l ∷ ls) n kind are e = absurd are
nth_list (k ∷ ks) (l ∷ ls) zero kind are e = subst (λ x. IsList x l) (same_Some _ _ e) are.0
nth_list (k ∷ ks) (l ∷ ls) (suc n) kind are e = nth_list ks ls n kind are.1 e

pub held_is : (h : Held) (kind : Kind) → IsHeld h → IsList kind (get_or h.lists (place_of_kind kind) [])
held_is h kind is = nth_list all_kinds h.lists (place_of_kind kind) kind is.lists (kind_there kind)

-- ---- stages

stage_page : (s : Stage) (kind : Kind) (rows : List Record) (total : ℕ) (done : Bool) → IsStage s → CanPage kind rows (Some (state_of s)) → IsStage (stage_after s rows total done)
stage_page s kind rows total true is can =
    let all : IsList kind (s.present ++ rows) = list_more kind s.present rows (is.present kind can.0) can.1 can.2 in
    record {
      pin = is.pin;
      done = lists_push all_kinds s.done (s.present ++ rows) (omega (arith, can.0, place_below kind)) is.done (λ k e. subst (λ k. IsList k (s.present ++ rows)) (nth_is kind k (length s.done) can.0 e) all);
      present = λ k e. no_list k;
      whole = λ e. (refl, refl);
    }
stage_page s kind rows total false is can =
    let all : IsList kind (s.present ++ rows) = list_more kind s.present rows (is.present kind can.0) can.1 can.2 in
    record {
      pin = is.pin;
      done = is.done;
      present = λ k e. subst (λ k. IsList k (s.present ++ rows)) (kind_from_place kind k (can.0 ∙ sym e)) all;
      whole = λ e. absurd (omega (arith, e, can.0, place_below kind));
    }

begun_is : (pin : ℕ) (token : List ℕ) → pin ≤ LAST → IsStage (begun pin token)
begun_is pin token le = record { pin = le; done = tt; present = λ k e. no_list k; whole = λ e. absurd (omega (arith, e)) }

paged_is : (o : Option Stage) (kind : Kind) (rows : List Record) (total : ℕ) (done : Bool) → IfSome o IsStage → CanPage kind rows (option_map state_of o) → IfSome (option_map (λ s. stage_after s rows total done) o) IsStage
paged_is None kind rows total done is can = absurd can
paged_is (Some s) kind rows total done is can = stage_page s kind rows total done is can

swapped_is : (c : Copy) (o : Option Stage) → IsCopy c → IfSome o IsStage → AllDone (option_map state_of o) → IsCopy (swapped c o)
swapped_is c None is st all = absurd all
swapped_is c (Some s) is st all = record { run = is.run; held = record { version = st.pin; all = all; lists = st.done }; stage = tt; last = is.last; entries = is.entries }

-- ---- entries

abbrev IsBelow : ℕ → OutEntry → Type 0
IsBelow last entry = entry.number ≤ last

rise_push : (n last : ℕ) (es : List OutEntry) (e : OutEntry) → NumbersRise n es → All (IsBelow last) es → n ≤ last → last < e.number → NumbersRise n (es ++ e ∷ [])
rise_push n last [] e rise below le lt = (omega (arith, le, lt), tt)
rise_push n last (x ∷ xs) e rise below le lt = (rise.0, rise_push x.number last xs e rise.1 (All-tail (IsBelow last) x xs below) (All-head (IsBelow last) x xs below) lt)

abbrev IsOpen : OutEntry → Type 0
IsOpen entry = entry.settled ≡ None

all_open : (es : List OutEntry) → All IsOpen es → SettledFirst es
all_open [] all = tt
all_open (x ∷ xs) all = subst (λ o. MatchOption o (All IsOpen xs) (λ _. SettledFirst xs)) (sym (All-head IsOpen x xs all)) (All-tail IsOpen x xs all)

open_push : (es : List OutEntry) (e : OutEntry) → SettledFirst es → e.settled ≡ None → SettledFirst (es ++ e ∷ [])
open_push [] e h n = subst (λ o. MatchOption o (All IsOpen []) (λ _. ⊤)) (sym n) (All-nil IsOpen)
open_push (x ∷ xs) e h n = elim x.settled as (λ o. MatchOption o (All IsOpen xs) (λ _. SettledFirst xs) → MatchOption o (All IsOpen (xs ++ e ∷ [])) (λ _. SettledFirst (xs ++ e ∷ []))) [
  | None ↦ λ all. All-append IsOpen xs (e ∷ []) all (All-cons IsOpen e [] n (All-nil IsOpen))
  | Some y ↦ λ rest. open_push xs e rest n
] h

entered_is : (last number : ℕ) (write : Write) (es : List OutEntry) → number ≡ last + 1 → IsOutWrite write → AreEntries last es → AreEntries number (es ++ (record { number = number; write = write; settled = None }) ∷ [])
entered_is last number write es e w are =
    let entry : OutEntry = record { number = number; write = write; settled = None } in
    record {
      writes = All-append (λ x. IsOutWrite x.write) es (entry ∷ []) are.writes (All-cons (λ x. IsOutWrite x.write) entry [] w (All-nil (λ x. IsOutWrite x.write)));
      rise = rise_push 0 last es entry are.rise are.below (omega arith) (omega (arith, e));
      below = All-append (IsBelow number) es (entry ∷ []) (All-weaker (IsBelow last) (IsBelow number) (λ x le. omega (arith, le, e)) es are.below) (All-cons (IsBelow number) entry [] (omega arith) (All-nil (IsBelow number)));
      settled = open_push es entry are.settled refl;
    }

-- what doesn't look at whether an entry is settled stays
all_settled : (P : OutEntry → Type 0) (s : Settled) (es : List OutEntry) → ((e : OutEntry) → P e → P (record e { settled = Some s })) → All P es → All P (settled_first s es)
all_settled P s [] f all = all
all_settled P s (x ∷ xs) f all =
    let h = All-head P x xs all in
    let t = All-tail P x xs all in
    elim (is_none x.settled) as (λ b. All P (if b then record x { settled = Some s } ∷ xs else x ∷ settled_first s xs)) [
      | true ↦ All-cons P (record x { settled = Some s }) xs (f x h) t
      | false ↦ All-cons P x (settled_first s xs) h (all_settled P s xs f t)
    ]

rise_settled : (n : ℕ) (s : Settled) (es : List OutEntry) → NumbersRise n es → NumbersRise n (settled_first s es)
rise_settled n s [] h = h
rise_settled n s (x ∷ xs) h = elim (is_none x.settled) as (λ b. NumbersRise n (if b then record x { settled = Some s } ∷ xs else x ∷ settled_first s xs)) [
  | true ↦ h
  | false ↦ (h.0, rise_settled x.number s xs h.1)
]

first_settled : (s : Settled) (es : List OutEntry) → SettledFirst es → SettledFirst (settled_first s es)
first_settled s [] h = h
first_settled s (x ∷ xs) h = elim x.settled as (λ o. x.settled ≡ o → MatchOption o (All IsOpen xs) (λ _. SettledFirst xs) → SettledFirst (if is_none o then record x { settled = Some s } ∷ xs else x ∷ settled_first s xs)) [
  | None ↦ λ e all. all_open xs all
  | Some y ↦ λ e rest. subst (λ o. MatchOption o (All IsOpen (settled_first s xs)) (λ _. SettledFirst (settled_first s xs))) (sym e) (first_settled s xs rest)
] refl h

settled_is : (last : ℕ) (s : Settled) (es : List OutEntry) → AreEntries last es → AreEntries last (settled_first s es)
settled_is last s es are = record {
  writes = all_settled (λ e. IsOutWrite e.write) s es (λ e w. w) are.writes;
  rise = rise_settled 0 s es are.rise;
  below = all_settled (IsBelow last) s es (λ e le. le) are.below;
  settled = first_settled s es are.settled;
}

-- ---- the whole

pub changed_is : (change : CopyChange) (c : Copy) → CanChange change c → IsCopy c → IsCopy (copy_after change c)
changed_is (Run run) c can is = record { run = can.1; held = is.held; stage = is.stage; last = is.last; entries = is.entries }
changed_is (Begin pin token) c can is = record { run = is.run; held = is.held; stage = begun_is pin token can.1; last = is.last; entries = is.entries }
changed_is (Page kind rows total done) c can is = record { run = is.run; held = is.held; stage = paged_is c.stage kind rows total done is.stage can; last = is.last; entries = is.entries }
changed_is Drop c can is = record { run = is.run; held = is.held; stage = tt; last = is.last; entries = is.entries }
changed_is Swap c can is = swapped_is c c.stage is is.stage can
changed_is (Enter number write) c can is = record { run = is.run; held = is.held; stage = is.stage; last = can.1; entries = entered_is c.last_number number write c.entries can.0 can.2 is.entries }
changed_is (Settle number status version) c can is = record { run = is.run; held = is.held; stage = is.stage; last = is.last; entries = settled_is c.last_number (record { status = status; version = version }) c.entries is.entries }

pub committed_is : (change : CopyChange) (result : Result (Unit {0}) NoMemory) (old new : Copy) → OnOk result (new ≡ copy_after change old) → OnErr result (new ≡ old) → CanChange change old → IsCopy old → IsCopy new
committed_is change (Ok x) old new ok err can is = subst (λ c. IsCopy c) (sym ok) (changed_is change old can is)
committed_is change (Err e) old new ok err can is = subst (λ c. IsCopy c) (sym err) is

-- ---- what a store may answer

pub few_if : (o : Option Stage) → IfSome o IsStage → IfSome o (λ s. length s.done ≤ kind_count)
few_if None is = tt
few_if (Some s) is = lists_few all_kinds s.done is.done

none_last : (rows : List Record) → length rows ≡ 0 → last_from None rows ≡ None
none_last [] e = refl
none_last (x ∷ xs) e = absurd (omega (arith, e))

some_last : (rows : List Record) → (length rows ≡ 0 → ⊥) → is_some (last_from None rows) ≡ true
some_last [] some = absurd (some refl)
some_last (x ∷ xs) some = goes_on x.id xs
  where
    goes_on : (id : List ℕ) (rows : List Record) → is_some (last_from (Some id) rows) ≡ true
    goes_on id [] = refl
    goes_on id (y ∷ ys) = goes_on y.id ys

state_can : (s : Stage) → IsStage s → CanBeStage (state_of s)
state_can s is = record { pin = is.pin; kinds = lists_few all_kinds s.done is.done; first = none_last s.present; some = some_last s.present; whole = λ e. let w = is.whole e in (ap length w.0, w.1) }

stage_can : (o : Option Stage) → IfSome o IsStage → IfSome (option_map state_of o) CanBeStage
stage_can None is = tt
stage_can (Some s) is = state_can s is

held_can : (o : Option Held) → IfSome o IsHeld → IfSome (option_map (λ h. h.version) o) (λ v. v ≤ LAST)
held_can None is = tt
held_can (Some h) is = is.version

token_can : (o : Option Held) → option_map (λ h. h.version) o ≡ None → option_map_or (λ h. h.token) o None ≡ None
token_can None e = refl
token_can (Some h) e = cc

pub state_is : (c : Copy) → IsCopy c → CanBe (small_part c)
state_is c is = record { run = is.run; held = held_can c.held is.held; token = token_can c.held; stage = stage_can c.stage is.stage; last = is.last }

list_if : (o : Option Held) (kind : Kind) → IfSome o IsHeld → IsList kind (option_map_or (λ h. get_or h.lists (place_of_kind kind) []) o [])
list_if None kind is = no_list kind
list_if (Some h) kind is = held_is h kind is

pub held_list_is : (c : Copy) (kind : Kind) → IsCopy c → IsList kind (held_list c kind)
held_list_is c kind is = list_if c.held kind is.held

entry_if : (after last : ℕ) (es : List OutEntry) → last ≤ LAST → All (λ e. IsOutWrite e.write) es → All (IsBelow last) es → IfSome (entry_after after es) (CanBeEntry after)
entry_if after last [] le w below = tt
entry_if after last (x ∷ xs) le w below = elim (nat_lt after x.number) as (λ b. nat_lt after x.number ≡ b → IfSome (if b then Some x else find (λ e. nat_lt after e.number) xs) (CanBeEntry after)) [
  | true ↦ λ e. record { above = (let lt : after < x.number = grind (arith, nat_tests, e) in lt); last = (let h = All-head (IsBelow last) x xs below in omega (arith, h, le)); write = All-head (λ e. IsOutWrite e.write) x xs w }
  | false ↦ λ e. entry_if after last xs le (All-tail (λ e. IsOutWrite e.write) x xs w) (All-tail (IsBelow last) x xs below)
] refl

pub entry_is : (c : Copy) (after : ℕ) → IsCopy c → IfSome (entry_after after c.entries) (CanBeEntry after)
entry_is c after is = entry_if after c.last_number c.entries is.last is.entries.writes is.entries.below

pub empty_is : IsCopy empty_copy
empty_is = record {
  run = omega arith;
  held = tt;
  stage = tt;
  last = omega arith;
  entries = record { writes = All-nil (λ e. IsOutWrite e.write); rise = tt; below = All-nil (IsBelow 0); settled = tt };
}
