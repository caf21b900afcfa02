-- Statements over the table that the database was asked to run.
use Rattle.std.specs.Prelude.{◌≡◌, ◌≢◌, ◌⊎◌, ℕ, List, [], ◌∷◌, Result, Ok, Err}
use Rattle.sqlite.specs.declared.error.Error.{Error}
use Rattle.sqlite.specs.declared.error.Error.TheVariants.{SqliteFailure}
use Rattle.sqlite.specs.declared.error.ErrorCode.TheVariants.{OutOfMemory}
use Rattle.sqlite.specs.Order.{Row}
use Rattle.sqlite.specs.State.{State, Executes, Shown, FailsToQuery}
use Rattle.sqlite_rules.specs.Lists.{Has}
use Rattle.item_store.specs.Stands.{Earlier}
use Rattle.item_store.specs.Table.{make_text, select_text, delete_text, upsert_text, begin_text, commit_text, no_text}

-- the texts of all statements but the rollback
abbrev pub texts : List (List ℕ)
texts = make_text ∷ begin_text ∷ upsert_text ∷ delete_text ∷ commit_text ∷ select_text ∷ no_text ∷ []

-- a statement of such a text was run
abbrev pub Ran : State → State → Type 0
Ran old new = (sql : List ℕ) × Has texts sql × (params : Row)
    × (((count : ℕ) × Executes sql params old new (Ok count)) ⊎ ((rows : List Row) × Shown sql params old new rows))

-- a statement of such a text was refused, with this error
abbrev pub Refused : State → State → Error → Type 0
Refused old new e = (sql : List ℕ) × Has texts sql × (params : Row)
    × (Executes sql params old new (Err e) ⊎ FailsToQuery sql params old new e)

-- how a call of one statement ended
abbrev pub Asks : {T : Type 0} → State → State → Result T Error → Type 0
Asks old new (Ok x) = Ran old new
Asks old new (Err e) = Refused old new e

-- statements ran one after another, with these connections between
abbrev pub Leads : {H : Type 0} → (H → State) → List H → H → H → Type 0
Leads view [] first last = first ≡ last
Leads view (next ∷ more) first last = Ran (view first) (view next) × Leads view more next last

-- at the end of such a row one was refused, with this error
pub record IsRefused {H : Type 0} (view : H → State) (first last : H) (e : Error) : Type 0 where
  pub between : List H
  pub before : H
  pub after : H
  pub leads : Leads view between first before
  pub refused : Refused (view before) (view after) e
  pub later : Earlier (view after) (view last)

-- how a call of statements one after another ended; want of memory needs no cause
abbrev pub AsksInTurn : {T H : Type 0} → (H → State) → H → H → Result T Error → Type 0
AsksInTurn {H = H} view first last (Ok x) = (between : List H) × Leads view between first last
AsksInTurn view first last (Err e) = e ≢ SqliteFailure OutOfMemory → IsRefused view first last e
