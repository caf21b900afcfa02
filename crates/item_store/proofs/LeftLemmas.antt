-- What calls one after another leave in the files.
use Rattle.std.proofs.Common.{◌≡◌, ◌⊎◌, inl, inr, false, [], ◌∷◌, Result, Ok, Err, OnOk, OnErr, IsTrue, sym, subst}
use Rattle.sqlite.specs.declared.error.Error.{Error}
use Rattle.sqlite.specs.Effect.{IsDatabase}
use Rattle.sqlite.specs.Held.{Held, state}
use Rattle.sqlite.specs.State.{State, HasCleanDisk, IsLive}
use Rattle.sqlite.specs.Tree.{Trees}
use Rattle.sqlite_trees.specs.declared.store.Store.{Ghosts}
use Rattle.item_maps.specs.Items.{Items}
use Rattle.item_store.specs.Left.{IsLeft, LeavesAs, Leaves, MayHold}
use Rattle.item_store.specs.Stands.{IsTold, StandsFor, GoesBackTo}
use Rattle.item_store.proofs.EditLemmas.{stands_back}

-- an open connection is open still, and a stop leaves nothing new
pub record LeavesNo (old new : State) : Type 0 where
  pub live : IsTrue new.is_open
  pub left : (db : Trees) → new.may_leave db → old.may_leave db

-- the same where the disk is clean and the connection was open
abbrev pub LeavesNothing : State → State → Type 0
LeavesNothing old new = HasCleanDisk new → IsTrue old.is_open → LeavesNo old new

pub no_calls : (s : State) → LeavesNothing s s
no_calls s clean live = record { live = live; left = λ db may. may }

pub nothing_ok : {T : Type 0} (old new : State) (x : T) → Leaves old new (Ok x) (λ _. ⊥) → LeavesNothing old new
nothing_ok old new x h clean live =
    let it = h clean live in record { live = it.live; left = λ db may. elim (it.left db may) [ inl was ↦ was | inr none ↦ absurd none ] }

pub nothing_then : (a b c : State) → (HasCleanDisk c → HasCleanDisk b) → LeavesNothing a b → LeavesNothing b c → LeavesNothing a c
nothing_then a b c earlier one two clean live =
    let first = one (earlier clean) live in
    let then = two clean first.live in
    record { live = then.live; left = λ db may. first.left db (then.left db may) }

pub leaves_then : {T : Type 0} (a b c : State) (Adds : Trees → Type 0) (r : Result T Error) → (HasCleanDisk c → HasCleanDisk b) → LeavesNothing a b → Leaves b c r Adds → Leaves a c r Adds
leaves_then a b c Adds r earlier one two clean live =
    let first = one (earlier clean) live in
    let then = two clean first.live in
    record { live = then.live; ended = then.ended; left = λ db may. elim (then.left db may) [ inl was ↦ inl (first.left db was) | inr more ↦ inr more ] }

-- the same of an error that is handed on
pub err_on : {T U : Type 0} (old new : State) (Adds More : Trees → Type 0) (r : Result U Error) (e f : Error) → r ≡ Err f → ((db : Trees) → Adds db → More db) → Leaves {T = T} old new (Err e) Adds → Leaves old new r More
err_on {U = U} old new Adds More r e f is grows h clean live =
    let it = h clean live in
    let made : LeavesAs {T = U} old new (Err f) More = record { live = tt; ended = it.ended; left = λ db may. elim (it.left db may) [ inl was ↦ inl was | inr more ↦ inr (grows db more) ] } in
    subst (λ (x : Result U Error). LeavesAs old new x More) (sym is) made

pub grown : {T : Type 0} (old new : State) (r : Result T Error) (Adds More : Trees → Type 0) → ((db : Trees) → Adds db → More db) → Leaves old new r Adds → Leaves old new r More
grown old new r Adds More grows h clean live =
    let it = h clean live in
    record { live = it.live; ended = it.ended; left = λ db may. elim (it.left db may) [ inl was ↦ inl was | inr more ↦ inr (grows db more) ] }

-- however a call ended, its connection is open or its transaction undone
pub ended_or_live : {T : Type 0} (s : State) (r : Result T Error) → OnOk r (IsTrue s.is_open) → OnErr r (IsTrue s.is_open ⊎ (s.in_transaction ≡ false)) → IsTrue s.is_open ⊎ (s.in_transaction ≡ false)
ended_or_live s (Ok x) live ended = inl live
ended_or_live s (Err e) live ended = ended

-- and some items are gone back to by a rollback
pub goes_back : {T : Type 0} (s : State) (r : Result T Error) (done m : Items) → OnOk r (StandsFor s done) → OnErr r (GoesBackTo s m) → (base : Items) × GoesBackTo s base
goes_back s (Ok x) done m stands back = (done, stands_back s done stands)
goes_back s (Err e) done m stands back = (m, back)

-- ---- what the files may hold

-- while the connection is open a stop leaves what is committed
pub held_open : {S : Type 0} (g : Ghosts S) (h : Held S) (m : Items) → ((db : Trees) → g.recovers h.store db → db ≡ (g.view h.store).committed) → IsLive (state g h) → HasCleanDisk (state g h) → IsTrue (state g h).is_open
    → StandsFor (state g h) m → MayHold (state g h) (m ∷ [])
held_open g h m settled lives clean live stands db may =
    let s = state g h in
    let same = settled db may in
    inl (record {
      schema = s.committed.schema;
      sound = subst (λ (t : Trees). IsDatabase (record { schema = s.committed.schema; trees = t })) (sym same) (lives live).1;
      told = subst (λ (t : Trees). IsTold (record { schema = s.committed.schema; trees = t }) m) (sym same) (stands clean live).told;
    })

pub held_by : (old new : State) (m : Items) → ((db : Trees) → new.may_leave db → old.may_leave db ⊎ IsLeft db m) → MayHold old (m ∷ []) → MayHold new (m ∷ [])
held_by old new m left held db may = elim (left db may) [ inl was ↦ held db was | inr is ↦ inl is ]

pub held_either : (old new : State) (m n : Items) → ((db : Trees) → new.may_leave db → old.may_leave db ⊎ (IsLeft db m ⊎ IsLeft db n)) → MayHold old (m ∷ []) → MayHold new (m ∷ n ∷ [])
held_either old new m n left held db may = elim (left db may) [
  | inl was ↦ elim (held db was) [ inl is ↦ inl is | inr none ↦ absurd none ]
  | inr (inl is) ↦ inl is
  | inr (inr is) ↦ inr (inl is)
]
