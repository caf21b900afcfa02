-- Whether a connection is open, before calls and behind them.
use Rattle.std.proofs.Common.{◌≡◌, ℕ, List, [], false, inl, inr, Result, Ok, Err, Vec, OnOk, IfOk, IsTrue, refl, arith}
use Rattle.std.proofs.lemmas.Bool.{cases_Bool}
use Rattle.std.specs.declared.alloc.Global.{Global}
use Rattle.sqlite.specs.declared.error.Error.{Error}
use Rattle.sqlite.specs.Command.TheVariants.{Commit, Nothing}
use Rattle.sqlite.specs.Order.{Row}
use Rattle.sqlite.specs.State.{State, Survives, Executes, IsUnchanged, Shown}
use Rattle.sqlite.specs.Tree.{Trees}
use Rattle.sqlite.proofs.Callers.{runs_as}
use Rattle.item_store.specs.Left.{Lasts}
use Rattle.item_store.specs.Stands.{Earlier}
use Rattle.item_store.specs.Table.{commit_text, no_text}
use Rattle.item_store.proofs.States.{shown_open}
use Rattle.item_store.proofs.Texts.{commit_any, commit_any_plain, nothing_any, nothing_any_plain}

-- a disk that is clean behind a statement was so before
pub clean_before : {old new : State} {Commits : Trees → Type 0} → Survives old new Commits → Earlier old new
clean_before it clean = omega (arith, it.clean)

pub lasts_by : (old new : State) (Commits : Trees → Type 0) → Survives old new Commits → Lasts old new
lasts_by old new Commits it times h = record {
  clean = let later = it.clean in let now = h.clean in omega arith;
  counted = h.counted;
  which = elim (cases_Bool old.is_open) [
    | inl live ↦ elim h.which [
      | inl down ↦ elim (it.closes h.clean live) [
        | inl open_now ↦ absurd (let shut = down.0 in cc)
        | inr more ↦ inr (let few = down.1 in let cap = h.counted in omega (arith, more))
      ]
      | inr less ↦ inr (let counts = it.counts in omega arith)
    ]
    | inr shut ↦ elim h.which [
      | inl down ↦ inl (shut, let counts = it.counts in let few = down.1 in omega arith)
      | inr less ↦ inr (let counts = it.counts in omega arith)
    ]
  ];
}

-- the statement that does nothing ran, so the connection was open and all is as it was
pub nothing_ran : (old new : State) (count : ℕ) → Executes no_text [] old new (Ok count) → IsUnchanged old new
nothing_ran old new count ran = (runs_as no_text [] old new old.now.schema refl Nothing (nothing_any old.now.schema) (nothing_any_plain old.now.schema) count ran).0

-- behind a COMMIT the connection is open, and no transaction is
pub commit_ran : (old new : State) (count : ℕ) → Executes commit_text [] old new (Ok count) → IsTrue new.is_open × (new.in_transaction ≡ false)
commit_ran old new count ran =
    let done = runs_as commit_text [] old new old.now.schema refl Commit (commit_any old.now.schema) (commit_any_plain old.now.schema) count ran in (done.1.is_open, done.1.mode)

pub shown_live : (sql : List ℕ) (params : Row) (old new : State) (r : Result (Vec Row Global) Error) → IfOk r (λ rows. Shown sql params old new rows.items) → OnOk r (IsTrue new.is_open)
shown_live sql params old new (Ok rows) shown = (shown_open sql params old new rows.items shown).1
shown_live sql params old new (Err e) shown = tt
