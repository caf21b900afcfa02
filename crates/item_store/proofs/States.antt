-- What the calls make of what a connection stands for.
use Rattle.std.proofs.Common.{◌≡◌, ◌≤◌, Bool, ℕ, pos, ◌⊎◌, inl, inr, List, [], ◌∷◌, length, true, false, not, ◌&&◌}
use Rattle.std.proofs.Common.{◌||◌, cond, take, Option, Some, None, Ok, Err, Result, OnErr, IfOk, IfErr, Vec, IsTrue}
use Rattle.std.proofs.Common.{map, is_some, IsSome, refl, sym, ap, ap₂, ◌∙◌, subst, subst₂, arith}
use Rattle.std.proofs.lemmas.Bool.{cases_Bool}
use Rattle.sqlite.specs.declared.error.Error.{Error}
use Rattle.sqlite.specs.declared.types.Value.TheVariants.{Int}
use Rattle.sqlite.specs.Order.{Row}
use Rattle.sqlite.specs.Command.TheVariants.{Begin, Commit, Rollback, Select, Insert, InsertOr, Update, Delete}
use Rattle.sqlite.specs.Command.TheVariants.{CreateTable, CreateIndex, DropTable, DropIndex, Savepoint, Release}
use Rattle.sqlite.specs.Command.TheVariants.{RollbackTo, Nothing, CreateView, DropView, Rows}
use Rattle.sqlite.specs.Effect.{Database}
use Rattle.sqlite.specs.Schema.{Schema}
use Rattle.sqlite.specs.Clock.{timed}
use Rattle.std.specs.declared.alloc.Global.{Global}
use Rattle.sqlite_resolve.specs.declared.error.CompileError.{CompileError}
use Rattle.sqlite.specs.Listing.{understood}
use Rattle.sqlite.specs.State.{State, HasCleanDisk, Executes, ExecutesIn, Writes, IsUnchanged, IsRolledBack, IsNotRun}
use Rattle.sqlite.specs.State.{IsNoStatement, RunsAlone, RunsCommand, Runs, FailsToQuery, FailsToShow, shows_rows}
use Rattle.sqlite.specs.State.{Shown, ShowsRows, IsMisplaced, is_pragma, text_of}
use Rattle.sqlite.specs.Effect.{is_query}
use Rattle.sqlite.specs.Calls.{IsWrite}
use Rattle.sqlite_tied.specs.Compute.{everything}
use Rattle.sqlite_resolve.specs.declared.compiled.Compiled.{Compiled}
use Rattle.sqlite_schema.specs.declared.command.Returning.{Returning}
use Rattle.sqlite_schema.specs.declared.command.Command.{Command}
use Rattle.sqlite.proofs.Callers.{runs_as}
use Rattle.item_store.specs.Table.{item_schema, make_text, begin_text, commit_text, rollback_text, delete_text}
use Rattle.item_store.specs.Table.{upsert_text, select_text}
use Rattle.item_maps.specs.Items.{Items, cleared, put, listed}
use Rattle.item_store.specs.Items.{params_of, put_params, Holds, shown}
use Rattle.item_store.specs.Stands.{IsTabled, IsTold, IsSettled, StandsFor, IsReady, IsInside, IsWithin, MayGoBack}
use Rattle.item_store.specs.Stands.{GoesBackTo, Earlier}
use Rattle.item_store.proofs.Texts.{begin_is, begin_plain, commit_is, commit_plain}
use Rattle.item_store.proofs.Range.{ranges}
use Rattle.item_store.proofs.Steps.{puts_state, clears_state, makes_state, made_again, none_held}

pub on_err : {A E : Type 0} {P : Type 0} (r : Result A E) → P → OnErr r P
on_err (Ok a) p = tt
on_err (Err e) p = p

-- a statement that fails leaves all as it was, or rolls the transaction back
abbrev pub Stops : State → State → Type 0
Stops old new = IsUnchanged old new ⊎ IsRolledBack old new

not_run_stops : (old new : State) (sql : List ℕ) (params : Row) (e : Error) → IsNotRun old new sql params e → Stops old new
unfolding IsNotRun
not_run_stops old new sql params e (inl h) = inl h.1
not_run_stops old new sql params e (inr h) = inr h.3

command_stops : (old new : State) (sql : List ℕ) (c : Compiled) (params : Row) (e : Error) → RunsCommand old new sql c params (Err e) → Stops old new
command_stops old new sql c params e (inl h) = inl h.1
command_stops old new sql c params e (inr h) = inr h.3

pub execute_stops : (sql : List ℕ) (params : Row) (old new : State) (e : Error) → Executes sql params old new (Err e) → Stops old new
unfolding ExecutesIn
execute_stops sql params old new e (inl h) = not_run_stops old new sql params e h
execute_stops sql params old new e (inr h) = elim (cases_Bool (shows_rows false h.0)) [
  | inl shows ↦ inl (rw shows at h.2).1
  | inr runs ↦ command_stops old new sql h.0 _ e (rw runs at h.2)
]

show_stops : (old new : State) (sql : List ℕ) (c : Compiled) (params : Row) (e : Error) (what : Option Returning) → FailsToShow old new sql c params e what → Stops old new
show_stops old new sql c params e None h = inl h.3
show_stops old new sql c params e (Some what) h = command_stops old new sql c params e h

pub query_stops : (sql : List ℕ) (params : Row) (old new : State) (e : Error) → FailsToQuery sql params old new e → Stops old new
unfolding FailsToQuery
query_stops sql params old new e (inl h) = not_run_stops old new sql params e h
query_stops sql params old new e (inr h) = show_stops old new sql h.0 _ e _ h.2

pub stands_stops : (old new : State) (m : Items) → Earlier old new → (HasCleanDisk new → Stops old new) → StandsFor old m → StandsFor new m
stands_stops old new m earlier stops h clean live = go (stops clean)
  where
    go : Stops old new → IsSettled new IsTold m
    go (inl same) = let was = h (earlier clean) same.0.was_open in record {
      autocommit = same.0.mode ∙ was.autocommit;
      same = same.0.now_is ∙ was.same ∙ sym same.0.committed_is;
      told = subst (λ d. IsTold d m) (sym same.0.committed_is) was.told;
    }
    go (inr back) = let was = h (earlier clean) (back.was_open live) in record {
      autocommit = back.autocommit;
      same = (back.undone live).0 ∙ sym (back.undone live).1;
      told = subst (λ d. IsTold d m) (sym (back.undone live).1) was.told;
    }

pub within_stops : (old new : State) (base m : Items) → Earlier old new → (HasCleanDisk new → Stops old new) → IsWithin old base m → GoesBackTo new base
within_stops old new base m earlier stops h clean live = go (stops clean)
  where
    go : Stops old new → MayGoBack new base
    go (inl same) = let was = h (earlier clean) same.0.was_open in record {
      base_told = subst (λ d. IsTold d base) (sym same.0.committed_is) was.base_told;
      table = λ _. ap (λ (d : Database). d.schema) same.0.now_is ∙ was.table.schema;
      settled = λ out. absurd (let a = same.0.mode in let b = was.inside in cc);
    }
    go (inr back) = let was = h (earlier clean) (back.was_open live) in record {
      base_told = subst (λ d. IsTold d base) (sym (back.undone live).1) was.base_told;
      table = λ inside. absurd (let a = back.autocommit in cc);
      settled = λ _. (back.undone live).0 ∙ sym (back.undone live).1;
    }

pub ready_stands : (s : State) (m : Items) → IsReady s m → StandsFor s m
ready_stands s m h clean live = let it = h clean live in record { autocommit = it.autocommit; same = it.same; told = inr it.told }

-- what ran, ran on an open connection
runs_open : (old new : State) (returning : Option Returning) (command : Command) (text : List ℕ) (params : Row) (count : ℕ) → Runs old new returning command text params count → IsTrue new.is_open → IsTrue old.is_open
runs_open old new r (Select q names) text params count h live = absurd h
runs_open old new r (Insert at from) text params count h live = h.shown.was_open
runs_open old new r (InsertOr at how from clauses) text params count h live = h.shown.was_open
runs_open old new r (Update at q) text params count h live = h.shown.was_open
runs_open old new r (Delete at q) text params count h live = h.shown.was_open
runs_open old new r CreateTable text params count h live = h.shown.was_open
runs_open old new r (CreateIndex at) text params count h live = h.shown.was_open
runs_open old new r (DropTable at) text params count h live = h.shown.was_open
runs_open old new r (DropIndex at) text params count h live = h.shown.was_open
runs_open old new r Begin text params count h live = h.1.was_open
runs_open old new r Commit text params count h live = h.1.was_open
runs_open old new r Rollback text params count h live = h.1.was_open live
runs_open old new r (Savepoint name) text params count h live = h.0.0.was_open
runs_open old new r (Release name) text params count h live = elim h.2 [ inl whole ↦ whole.1.0.was_open | inr part ↦ part.1.0.was_open ]
runs_open old new r (RollbackTo name) text params count h live = h.2.2.was_open
runs_open old new r (Rows values width names) text params count h live = h.0.0.was_open
runs_open old new r Nothing text params count h live = h.0.0.was_open
runs_open old new r CreateView text params count h live = h.shown.was_open
runs_open old new r (DropView at) text params count h live = h.shown.was_open

pub execute_open : (sql : List ℕ) (params : Row) (old new : State) (count : ℕ) → Executes sql params old new (Ok count) → IsTrue new.is_open → IsTrue old.is_open
unfolding ExecutesIn
execute_open sql params old new count h live = elim (cases_Bool (shows_rows false h.0)) [
  | inl shows ↦ absurd (let e = (rw shows at h.2).0 in cc)
  | inr runs ↦ runs_open old new _ h.0.command _ _ count (rw runs at h.2) live
]

module _ (old new : State) (earlier : Earlier old new) (count : ℕ) where
  -- a write outside a transaction is committed
  written_alone : {r : Option Returning} {command : Command} {text : List ℕ} {params : Row} (m : Items) → Writes old new r command text params count → old.in_transaction ≡ false → IsTabled new.now m → IsSettled new IsTabled m
  written_alone m w alone table =
      let same : new.committed ≡ new.now = w.shown.committed_is ∙ ap (λ b. cond b old.committed new.now) alone in
      record { autocommit = w.shown.mode ∙ alone; same = sym same; told = subst (λ d. IsTabled d m) (sym same) table }

  pub make_ready : (m : Items) → (HasCleanDisk new → Executes make_text [] old new (Ok count)) → StandsFor old m → IsReady new m
  make_ready m ran h clean live =
      let did = ran clean in
      let was = h (earlier clean) (execute_open make_text [] old new count did live) in
      elim was.told [
        | inl none ↦
            let made = makes_state old new count (ap (λ (d : Database). d.schema) was.same ∙ none.0) did in
            written_alone m made.2 was.autocommit (record { schema = made.0; rows = subst₂ (λ (rows : List Row) (n : Items). Holds rows n) (sym made.1) (sym none.1) none_held })
        | inr table ↦
            let same = made_again old new count (ap (λ (d : Database). d.schema) was.same ∙ table.schema) did in
            record {
              autocommit = same.0.mode ∙ was.autocommit;
              same = same.0.now_is ∙ was.same ∙ sym same.0.committed_is;
              told = subst (λ d. IsTabled d m) (sym same.0.committed_is) table;
            }
      ]

  pub begin_within : (m : Items) → (HasCleanDisk new → Executes begin_text [] old new (Ok count)) → IsReady old m → IsWithin new m m
  begin_within m ran h clean live =
      let did = ran clean in
      let was = h (earlier clean) (execute_open begin_text [] old new count did live) in
      let begun = runs_as begin_text [] old new item_schema (ap (λ (d : Database). d.schema) was.same ∙ was.told.schema) Begin begin_is begin_plain count did in
      record {
        inside = begun.1.mode;
        table = subst (λ d. IsTabled d m) (sym (begun.1.now_is ∙ was.same)) was.told;
        base_told = inr (subst (λ d. IsTabled d m) (sym begun.1.committed_is) was.told);
      }

  written_within : {r : Option Returning} {command : Command} {text : List ℕ} {params : Row} (base m : Items) → Writes old new r command text params count → old.in_transaction ≡ true → IsTold old.committed base → IsTabled new.now m → IsInside new base m
  written_within base m w inside told table =
      let same : new.committed ≡ old.committed = w.shown.committed_is ∙ ap (λ b. cond b old.committed new.now) inside in
      record { inside = w.shown.mode ∙ inside; table = table; base_told = subst (λ d. IsTold d base) (sym same) told }

  pub clear_within : (base m : Items) (area : ℕ) (from to : List ℕ) → (HasCleanDisk new → Executes delete_text (params_of area from to []) old new (Ok count)) → IsWithin old base m → IsWithin new base (cleared area from to m)
  clear_within base m area from to ran h clean live =
      let did = ran clean in
      let was = h (earlier clean) (execute_open delete_text _ old new count did live) in
      let done = clears_state old new m area from to count was.table.schema was.table.rows did in
      written_within base (cleared area from to m) done.2 was.inside was.base_told (record { schema = done.0; rows = done.1 })

  pub put_within : (base m : Items) (area : ℕ) (label body : List ℕ) → (HasCleanDisk new → Executes upsert_text (put_params area label body) old new (Ok count)) → IsWithin old base m → IsWithin new base (put area label body m)
  put_within base m area label body ran h clean live =
      let did = ran clean in
      let was = h (earlier clean) (execute_open upsert_text _ old new count did live) in
      let done = puts_state old new m area label body count was.table.schema was.table.rows did in
      written_within base (put area label body m) done.2 was.inside was.base_told (record { schema = done.0; rows = done.1 })

  pub commit_stands : (base m : Items) → (HasCleanDisk new → Executes commit_text [] old new (Ok count)) → IsWithin old base m → StandsFor new m
  commit_stands base m ran h clean live =
      let did = ran clean in
      let was = h (earlier clean) (execute_open commit_text [] old new count did live) in
      let done = runs_as commit_text [] old new item_schema was.table.schema Commit commit_is commit_plain count did in
      record {
        autocommit = done.1.mode;
        same = done.1.now_is ∙ sym done.1.committed_is;
        told = inr (subst (λ d. IsTabled d m) (sym done.1.committed_is) was.table);
      }

pub shown_open : (sql : List ℕ) (params : Row) (old new : State) (rows : List Row) → Shown sql params old new rows → IsTrue old.is_open × IsTrue new.is_open
unfolding Shown
shown_open sql params old new rows h = go h.0.returning h.2
  where
    go : (what : Option Returning) → ShowsRows old new sql h.0 (timed params h.0.formats h.1.now) rows what → IsTrue old.is_open × IsTrue new.is_open
    go None it = (it.3.0.was_open, it.3.0.is_open)
    go (Some what) it = (it.1.shown.was_open, it.1.shown.is_open)

pub range_is : (old new : State) (earlier : Earlier old new) (m : Items) (area : ℕ) (from to : List ℕ) (limit : ℕ) (rows : List Row)
    → (HasCleanDisk new → Shown select_text (params_of area from to (Int (pos limit) ∷ [])) old new rows) → IsReady old m
    → (HasCleanDisk new → rows ≡ map shown (take limit (listed area from to m))) × IsReady new m
range_is old new earlier m area from to limit rows shows h =
    let params = params_of area from to (Int (pos limit) ∷ []) in
    let read = λ (clean : HasCleanDisk new).
    let was = h (earlier clean) (shown_open select_text params old new rows (shows clean)).0 in
    ranges old new m area from to limit rows (ap (λ (d : Database). d.schema) was.same ∙ was.told.schema)
    (subst (λ (d : Database). Holds (d.trees 0) m) (sym was.same) was.told.rows) (shows clean) in (
      λ clean. (read clean).0,
      λ clean live.
          let same = (read clean).1 in
          let was = h (earlier clean) same.0.was_open in
          record {
            autocommit = same.0.mode ∙ was.autocommit;
            same = same.0.now_is ∙ was.same ∙ sym same.0.committed_is;
            told = subst (λ d. IsTabled d m) (sym same.0.committed_is) was.told;
          },
    )

-- ---- ROLLBACK

abbrev IsBare : Result Compiled CompileError → Type 0
IsBare (Ok c) = (c.command ≡ Rollback) × (c.returning ≡ None) × (c.names ≡ []) × (c.formats ≡ []) × (length rollback_text ≤ c.tail)
IsBare (Err e) = ⊥

rollback_bare : IsBare (understood item_schema rollback_text)
unfolding understood everything
rollback_bare = (refl, refl, refl, refl, omega arith)

module _ (old new : State) (inside : old.in_transaction ≡ true) where
  not_misplaced : (e : Error) → IsMisplaced old Rollback e → ⊥
  not_misplaced e (inl (is, inl (begin, open_now))) = cc
  not_misplaced e (inl (is, inr (which, out))) = cc
  not_misplaced e (inr (is, name, inl other, none)) = cc
  not_misplaced e (inr (is, name, inr other, none)) = cc

  back_command : (c : Compiled) (sql : List ℕ) (params : Row) (r : Result ℕ Error) → IsBare (Ok c) → RunsCommand old new sql c params r → IsRolledBack old new
  back_command c sql params (Ok count) bare h = (subst (λ k. Runs old new c.returning k (text_of sql c) params count) bare.0 h).1
  back_command c sql params (Err e) bare (inr fails) = fails.3
  back_command c sql params (Err e) bare (inl (inl misplaced, same)) = absurd (not_misplaced e (subst (λ k. IsMisplaced old k e) bare.0 misplaced))
  back_command c sql params (Err e) bare (inl (inr (inl writes, does), same)) = absurd (subst IsWrite bare.0 writes)
  back_command c sql params (Err e) bare (inl (inr (inr returns, does), same)) = absurd (let none = subst IsSome bare.1 returns in cc)

  back_alone : (c : Compiled) (sql : List ℕ) (params : Row) (r : Result ℕ Error) → IsBare (Ok c) → RunsAlone false old new sql c params r → IsRolledBack old new
  back_alone c sql params r bare h =
      let shows : shows_rows false c ≡ false = ap₂ (λ (k : Command) (what : Option Returning). is_query k || (not false && (is_pragma k || is_some what))) bare.0 bare.1 in
      back_command c sql params r bare (rw shows at h)

  no_statement : (e : Error) → IsBare (understood old.now.schema rollback_text) → IsNoStatement old rollback_text [] e → ⊥
  no_statement e bare (inl (fault, is, why)) = subst IsBare is bare
  no_statement e bare (inr (c, is, inl (part, why))) = part (subst IsBare is bare).4
  no_statement e bare (inr (c, is, inr (inl (counts, why)))) = counts (ap (λ (n : List (List ℕ)). length n) (sym (subst IsBare is bare).2))
  no_statement e bare (inr (c, is, inr (inr (clock, why)))) = clock (subst IsBare is bare).3

  -- however it ends, a ROLLBACK inside a transaction rolls it back
  pub rolls_back : (r : Result ℕ Error) → old.now.schema ≡ item_schema → Executes rollback_text [] old new r → IsRolledBack old new
  unfolding ExecutesIn IsNotRun
  rolls_back (Ok count) has h =
      let bare = subst IsBare h.1.is (subst (λ s. IsBare (understood s rollback_text)) (sym has) rollback_bare) in back_alone h.0 rollback_text _ (Ok count) bare h.2
  rolls_back (Err e) has (inl (inl (none, same))) = absurd (no_statement e (subst (λ s. IsBare (understood s rollback_text)) (sym has) rollback_bare) none)
  rolls_back (Err e) has (inl (inr fails)) = fails.3
  rolls_back (Err e) has (inr h) =
      let bare = subst IsBare h.1.is (subst (λ s. IsBare (understood s rollback_text)) (sym has) rollback_bare) in back_alone h.0 rollback_text _ (Err e) bare h.2

pub rollback_stands : (old new : State) (base : Items) (r : Result ℕ Error) → Earlier old new → old.in_transaction ≡ true → (HasCleanDisk new → Executes rollback_text [] old new r)
    → (HasCleanDisk new → IsTrue new.is_open → IsTrue old.is_open) → GoesBackTo old base → StandsFor new base
rollback_stands old new base r earlier inside ran was_open h clean live =
    let was = h (earlier clean) (was_open clean live) in
    let back = rolls_back old new inside r (was.table inside) (ran clean) in
    record {
      autocommit = back.autocommit;
      same = (back.undone live).0 ∙ sym (back.undone live).1;
      told = subst (λ d. IsTold d base) (sym (back.undone live).1) was.base_told;
    }

pub stops_open : (old new : State) → Stops old new → IsTrue new.is_open → IsTrue old.is_open
stops_open old new (inl same) live = same.0.was_open
stops_open old new (inr back) live = back.was_open live

pub ran_open : (sql : List ℕ) (params : Row) (old new : State) (r : Result ℕ Error) → Executes sql params old new r → IsTrue new.is_open → IsTrue old.is_open
ran_open sql params old new (Ok count) h live = execute_open sql params old new count h live
ran_open sql params old new (Err e) h live = stops_open old new (execute_stops sql params old new e h) live

-- ---- what `select` answers

module _ (old new : State) (earlier : Earlier old new) (m : Items) (area : ℕ) (from to : List ℕ) (limit : ℕ) where
  pub select_rows : (r : Result (Vec Row Global) Error) → (HasCleanDisk new → IfOk r (λ rows. Shown select_text (params_of area from to (Int (pos limit) ∷ [])) old new rows.items)) → IsReady old m
      → HasCleanDisk new → IfOk r (λ rows. rows.items ≡ map shown (take limit (listed area from to m)))
  select_rows (Ok rows) ok h clean = (range_is old new earlier m area from to limit rows.items ok h).0 clean
  select_rows (Err e) ok h clean = tt

  pub select_same : (r : Result (Vec Row Global) Error) → (HasCleanDisk new → IfOk r (λ rows. Shown select_text (params_of area from to (Int (pos limit) ∷ [])) old new rows.items))
      → (HasCleanDisk new → IfErr r (FailsToQuery select_text (params_of area from to (Int (pos limit) ∷ [])) old new)) → IsReady old m → StandsFor new m
  select_same (Ok rows) ok err h = ready_stands new m (range_is old new earlier m area from to limit rows.items ok h).1
  select_same (Err e) ok err h = stands_stops old new m earlier (λ clean. query_stops select_text _ old new e (err clean)) (ready_stands old m h)

neither : (b : Bool) → not b ≡ true → b ≡ true → ⊥
neither false some none = absurd cc
neither true some none = absurd cc

-- where the database has a table, it is the item table
pub table_stands : (s : State) (m : Items) (none : Bool) → (s.now.schema.tables ≡ [] → none ≡ true) → not none ≡ true → StandsFor s m → IsReady s m
table_stands s m none seen some stands clean live =
    let was = stands clean live in
    record {
      autocommit = was.autocommit;
      same = was.same;
      told = elim was.told [
        | inl bare ↦ absurd (neither none some (seen (ap (λ (d : Database). d.schema.tables) was.same ∙ ap (λ (schema : Schema). schema.tables) bare.0)))
        | inr table ↦ table
      ];
    }
