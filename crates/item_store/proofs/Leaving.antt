-- What each statement leaves in the files.
use Rattle.std.proofs.Common.{◌≡◌, ◌≢◌, ℕ, pos, ◌⊎◌, inl, inr, List, [], ◌∷◌, true, false, Some, None, Option, Ok, Err}
use Rattle.std.proofs.Common.{Result, OnOk, OnErr, IfOk, IfErr, Vec, IsTrue, IsSome, refl, sym, ap, ◌∙◌, subst}
use Rattle.std.specs.declared.alloc.Global.{Global}
use Rattle.sqlite.specs.declared.error.Error.{Error}
use Rattle.sqlite.specs.declared.types.Value.TheVariants.{Int}
use Rattle.sqlite.specs.Order.{Row}
use Rattle.sqlite.specs.Schema.{Schema}
use Rattle.sqlite.specs.Tree.{Trees}
use Rattle.sqlite.specs.Command.TheVariants.{Begin, Commit, Rollback, InsertOr, Delete, CreateTable, Nothing, Release}
use Rattle.sqlite.specs.Source.TheVariants.{Values}
use Rattle.sqlite.specs.Effect.{Database, IsDatabase}
use Rattle.sqlite.specs.Does.{Tally, Does}
use Rattle.sqlite.specs.Listing.{understood}
use Rattle.sqlite.specs.State.{State, HasCleanDisk, Survives, Executes, IsStatement, CommitsBy, CommitsShowing, IsLive}
use Rattle.sqlite.specs.State.{Shown, FailsToQuery, mode_of, text_of}
use Rattle.sqlite.specs.Clock.{timed}
use Rattle.sqlite.proofs.Callers.{command_of, IsPlain, statement_of, runs_as}
use Rattle.sqlite_resolve.specs.declared.compiled.Compiled.{Compiled}
use Rattle.sqlite_schema.specs.declared.command.Command.{Command}
use Rattle.sqlite_schema.specs.declared.command.Returning.{Returning}
use Rattle.sqlite_schema.specs.declared.command.Conflict.TheVariants.{Abort}
use Rattle.item_store.specs.Table.{no_schema, item_schema, make_text, begin_text, commit_text, rollback_text}
use Rattle.item_store.specs.Table.{delete_text, upsert_text, select_text, no_text}
use Rattle.item_maps.specs.Items.{Items, no_items}
use Rattle.item_store.specs.Items.{Holds, params_of, put_params}
use Rattle.item_store.specs.Left.{IsLeft, Leaves, WasOpen}
use Rattle.item_store.specs.Stands.{IsTold, StandsFor, IsReady, IsWithin, GoesBackTo, Earlier}
use Rattle.item_store.proofs.Texts.{begin_is, begin_plain, commit_is, commit_plain, delete_is, delete_query, make_first}
use Rattle.item_store.proofs.Texts.{make_first_plain, make_again, nothing_any, put_terms, rollback_is, select_plain}
use Rattle.item_store.proofs.Texts.{upsert, upsert_is}
use Rattle.item_store.proofs.States.{Stops, execute_stops, on_err, query_stops, shown_open, stops_open}
use Rattle.item_store.proofs.Steps.{clears_state, made_again, makes_db, makes_state, none_held, puts_state}

-- ---- what a text may commit

module _ (sql : List ℕ) (params : Row) (s : State) (schema : Schema) (has : s.now.schema ≡ schema) (command : Command) (is : command_of (understood schema sql) ≡ command) where
  known : (c : Compiled) → IsStatement s sql params c → c.command ≡ command
  known c it = ap command_of (sym it.is) ∙ ap (λ t. command_of (understood t sql)) has ∙ is

  -- in a transaction only its end commits
  none_inside : s.in_transaction ≡ true → command ≢ Commit → ((name : List ℕ) → command ≢ Release name) → (db : Trees) → CommitsBy sql params s db → ⊥
  unfolding CommitsBy
  none_inside inside no_commit no_release db (c, it, inl (inl is_commit, trees)) = no_commit (sym (known c it) ∙ is_commit)
  none_inside inside no_commit no_release db (c, it, inl (inr (name, at, is_release, newest, begins), trees)) = no_release name (sym (known c it) ∙ is_release)
  none_inside inside no_commit no_release db (c, it, inr (outside, tally, after, does, sound, trees, spares)) = cc

  -- outside, only a command that makes something of the database
  none_outside : ((limit : Option ℕ) (params : Row) (old after : Database) (text : List ℕ) (r : Option Returning) (tally : Tally) → Does limit (mode_of s) params old text r command (Ok (tally, after)) → ⊥)
      → command ≢ Commit → ((name : List ℕ) → command ≢ Release name) → (db : Trees) → CommitsBy sql params s db → ⊥
  unfolding CommitsBy
  none_outside never no_commit no_release db (c, it, inl (inl is_commit, trees)) = no_commit (sym (known c it) ∙ is_commit)
  none_outside never no_commit no_release db (c, it, inl (inr (name, at, is_release, newest, begins), trees)) = no_release name (sym (known c it) ∙ is_release)
  none_outside never no_commit no_release db (c, it, inr (outside, tally, after, does, sound, trees, spares)) =
      never s.step_limit _ s.now after _ c.returning tally (subst (λ k. Does s.step_limit (mode_of s) (timed params c.formats it.now) s.now (text_of sql c) c.returning k (Ok (tally, after))) (known c it) does)

-- BEGIN makes nothing, nor does a text that stands for no change
nothing_begun : (s : State) (limit : Option ℕ) (params : Row) (old after : Database) (text : List ℕ) (r : Option Returning) (tally : Tally) → Does limit (mode_of s) params old text r Begin (Ok (tally, after)) → ⊥
nothing_begun s limit params old after text None tally h = cc
nothing_begun s limit params old after text (Some what) tally h = cc

nothing_made : (s : State) (limit : Option ℕ) (params : Row) (old after : Database) (text : List ℕ) (r : Option Returning) (tally : Tally) → Does limit (mode_of s) params old text r Nothing (Ok (tally, after)) → ⊥
nothing_made s limit params old after text None tally h = cc
nothing_made s limit params old after text (Some what) tally h = cc

pub nothing_commits : (s : State) (db : Trees) → CommitsBy no_text [] s db → ⊥
nothing_commits s = none_outside no_text [] s s.now.schema refl Nothing (nothing_any s.now.schema) (nothing_made s) (λ e. cc) (λ name e. cc)

-- ---- what calls leave

stops_ended : (old new : State) → Stops old new → IsTrue new.is_open ⊎ (new.in_transaction ≡ false)
stops_ended old new (inl same) = inl same.0.is_open
stops_ended old new (inr back) = inr back.autocommit

module _ (sql : List ℕ) (params : Row) (old new : State) (Adds : Trees → Type 0) (survives : Survives old new (CommitsBy sql params old))
    (commits : HasCleanDisk new → IsTrue old.is_open → (db : Trees) → CommitsBy sql params old db → Adds db) where
  left_by : HasCleanDisk new → IsTrue old.is_open → (db : Trees) → new.may_leave db → old.may_leave db ⊎ Adds db
  left_by clean live db may = elim (survives.crash clean db may) [ inl was ↦ inl was | inr by ↦ inr (commits clean live db by) ]

  pub err_leaves : {T : Type 0} (r : Result T Error) (e f : Error) → r ≡ Err f → (HasCleanDisk new → Executes sql params old new (Err e)) → Leaves old new r Adds
  err_leaves {T} r e f is runs clean live = record {
    live = subst (λ (x : Result T Error). OnOk x (IsTrue new.is_open)) (sym is) tt;
    ended = on_err r (stops_ended old new (execute_stops sql params old new e (runs clean)));
    left = left_by clean live;
  }

  pub ok_leaves : {T : Type 0} (x : T) → (HasCleanDisk new → IsTrue old.is_open → IsTrue new.is_open) → Leaves old new (Ok x) Adds
  ok_leaves x open_then clean live = record { live = open_then clean live; ended = tt; left = left_by clean live }

module _ (old new : State) (earlier : Earlier old new) where
  module _ (base m : Items) (h : IsWithin old base m) where
    pub clear_commits : (area : ℕ) (from to : List ℕ) → HasCleanDisk new → IsTrue old.is_open → (db : Trees) → CommitsBy delete_text (params_of area from to []) old db → ⊥
    clear_commits area from to clean live db by =
        let was = h (earlier clean) live in
        none_inside delete_text (params_of area from to []) old item_schema was.table.schema (Delete 0 (record { lets = []; body = delete_query })) delete_is was.inside (λ e. cc) (λ name e. cc) db by

    pub put_commits : (area : ℕ) (label body : List ℕ) → HasCleanDisk new → IsTrue old.is_open → (db : Trees) → CommitsBy upsert_text (put_params area label body) old db → ⊥
    put_commits area label body clean live db by =
        let was = h (earlier clean) live in
        none_inside upsert_text (put_params area label body) old item_schema was.table.schema (InsertOr 0 Abort (Values put_terms 4) (upsert ∷ [])) upsert_is was.inside (λ e. cc) (λ name e. cc) db by

    -- COMMIT commits what the transaction has made
    pub commit_commits : IsLive old → HasCleanDisk new → IsTrue old.is_open → (db : Trees) → CommitsBy commit_text [] old db → IsLeft db m
    unfolding CommitsBy
    commit_commits lives clean live db (c, it, inl (which, trees)) =
        let was = h (earlier clean) live in
        record {
          schema = old.now.schema;
          sound = subst (λ (t : Trees). IsDatabase (record { schema = old.now.schema; trees = t })) (sym trees) (lives live).0;
          told = subst (λ (t : Trees). IsTold (record { schema = old.now.schema; trees = t }) m) (sym trees) (inr (record { schema = was.table.schema; rows = was.table.rows }));
        }
    commit_commits lives clean live db (c, it, inr (outside, tally, after, does, sound, trees, spares)) = let was = h (earlier clean) live in absurd (let inside = was.inside in cc)

    pub clear_live : (count : ℕ) (area : ℕ) (from to : List ℕ) → (HasCleanDisk new → Executes delete_text (params_of area from to []) old new (Ok count)) → HasCleanDisk new → IsTrue old.is_open → IsTrue new.is_open
    clear_live count area from to ran clean live =
        let was = h (earlier clean) live in (clears_state old new m area from to count was.table.schema was.table.rows (ran clean)).2.shown.is_open

    pub put_live : (count : ℕ) (area : ℕ) (label body : List ℕ) → (HasCleanDisk new → Executes upsert_text (put_params area label body) old new (Ok count)) → HasCleanDisk new → IsTrue old.is_open → IsTrue new.is_open
    put_live count area label body ran clean live =
        let was = h (earlier clean) live in (puts_state old new m area label body count was.table.schema was.table.rows (ran clean)).2.shown.is_open

    pub commit_live : (count : ℕ) → (HasCleanDisk new → Executes commit_text [] old new (Ok count)) → HasCleanDisk new → IsTrue old.is_open → IsTrue new.is_open
    commit_live count ran clean live =
        let was = h (earlier clean) live in (runs_as commit_text [] old new item_schema was.table.schema Commit commit_is commit_plain count (ran clean)).1.is_open

  module _ (m : Items) (h : IsReady old m) where
    ready_schema : HasCleanDisk new → IsTrue old.is_open → old.now.schema ≡ item_schema
    ready_schema clean live = let was = h (earlier clean) live in ap (λ (d : Database). d.schema) was.same ∙ was.told.schema

    pub begin_commits : HasCleanDisk new → IsTrue old.is_open → (db : Trees) → CommitsBy begin_text [] old db → ⊥
    begin_commits clean live db by = none_outside begin_text [] old item_schema (ready_schema clean live) Begin begin_is (nothing_begun old) (λ e. cc) (λ name e. cc) db by

    pub begin_live : (count : ℕ) → (HasCleanDisk new → Executes begin_text [] old new (Ok count)) → HasCleanDisk new → IsTrue old.is_open → IsTrue new.is_open
    begin_live count ran clean live = (runs_as begin_text [] old new item_schema (ready_schema clean live) Begin begin_is begin_plain count (ran clean)).1.is_open

    -- a query without RETURNING commits nothing
    pub select_commits : (area : ℕ) (from to : List ℕ) (limit : ℕ) → HasCleanDisk new → IsTrue old.is_open → (db : Trees) → CommitsShowing select_text (params_of area from to (Int (pos limit) ∷ [])) old db → ⊥
    unfolding CommitsShowing
    select_commits area from to limit clean live db (c, it, returns, writes) =
        let same = sym it.is ∙ ap (λ t. understood t select_text) (ready_schema clean live) in
        let bare = (subst IsPlain (sym same) select_plain).0 in
        absurd (let none = subst IsSome bare returns in cc)

  -- ---- CREATE TABLE IF NOT EXISTS

  made_left : (c : Compiled) (tally : Tally) (after : Database) (full : Row) (text : List ℕ) → c.returning ≡ None → full ≡ [] → text ≡ make_text → c.command ≡ CreateTable → old.now.schema ≡ no_schema → IsDatabase after
      → Does old.step_limit (mode_of old) full old.now text c.returning c.command (Ok (tally, after)) → IsLeft after.trees no_items
  made_left c tally after full text none empty is command has sound does =
      let plain = subst (λ k. Does old.step_limit (mode_of old) full old.now text c.returning k (Ok (tally, after))) command does in
      let bare = subst (λ r. Does old.step_limit (mode_of old) full old.now text r CreateTable (Ok (tally, after))) none plain in
      let here = subst (λ t. Does old.step_limit (mode_of old) full old.now t None CreateTable (Ok (tally, after))) is bare in
      let made = makes_db old.step_limit (mode_of old) full old.now after tally has here in
      record {
        schema = after.schema;
        sound = sound;
        told = inr (record { schema = made.0; rows = subst (λ (rows : List Row). Holds rows no_items) (sym made.1) none_held });
      }

  fresh_left : (db : Trees) → old.now.schema ≡ no_schema → CommitsBy make_text [] old db → IsLeft db no_items
  unfolding CommitsBy
  fresh_left db has (c, it, inl (inl is_commit, trees)) = absurd (let k = sym (known make_text [] old no_schema has CreateTable make_first.0 c it) ∙ is_commit in cc)
  fresh_left db has (c, it, inl (inr (name, at, is_release, newest, begins), trees)) = absurd (let k = sym (known make_text [] old no_schema has CreateTable make_first.0 c it) ∙ is_release in cc)
  fresh_left db has (c, it, inr (outside, tally, after, does, sound, trees, spares)) =
      let same = sym it.is ∙ ap (λ t. understood t make_text) has in
      let bare = subst IsPlain (sym same) make_first_plain in
      let text : text_of make_text c ≡ make_text = ap (statement_of make_text) same ∙ make_first.1 in
      subst (λ (t : Trees). IsLeft t no_items) (sym trees)
      (made_left c tally after (timed [] c.formats it.now) (text_of make_text c) bare.0 (ap (λ fs. timed [] fs it.now) bare.1) text (known make_text [] old no_schema has CreateTable make_first.0 c it) has sound does)

  module _ (m : Items) (h : StandsFor old m) where
    pub make_commits : HasCleanDisk new → IsTrue old.is_open → (db : Trees) → CommitsBy make_text [] old db → IsLeft db m
    make_commits clean live db by =
        let was = h (earlier clean) live in
        elim was.told [
          | inl none ↦ subst (IsLeft db) (sym none.1) (fresh_left db (ap (λ (d : Database). d.schema) was.same ∙ none.0) by)
          | inr table ↦ absurd (none_outside make_text [] old item_schema (ap (λ (d : Database). d.schema) was.same ∙ table.schema) Nothing make_again (nothing_made old) (λ e. cc) (λ name e. cc) db by)
        ]

    pub make_live : (count : ℕ) → (HasCleanDisk new → Executes make_text [] old new (Ok count)) → HasCleanDisk new → IsTrue old.is_open → IsTrue new.is_open
    make_live count ran clean live =
        let was = h (earlier clean) live in
        elim was.told [
          | inl none ↦ (makes_state old new count (ap (λ (d : Database). d.schema) was.same ∙ none.0) (ran clean)).2.shown.is_open
          | inr table ↦ (made_again old new count (ap (λ (d : Database). d.schema) was.same ∙ table.schema) (ran clean)).0.is_open
        ]

  -- ---- ROLLBACK

  pub back_commits : (base : Items) → GoesBackTo old base → old.in_transaction ≡ true → HasCleanDisk new → IsTrue old.is_open → (db : Trees) → CommitsBy rollback_text [] old db → ⊥
  back_commits base h inside clean live db by =
      let was = h (earlier clean) live in
      none_inside rollback_text [] old item_schema (was.table inside) Rollback rollback_is inside (λ e. cc) (λ name e. cc) db by

  -- ---- SELECT

  pub select_leaves : (m : Items) (area : ℕ) (from to : List ℕ) (limit : ℕ) (r : Result (Vec Row Global) Error)
      → (HasCleanDisk new → IfOk r (λ rows. Shown select_text (params_of area from to (Int (pos limit) ∷ [])) old new rows.items))
      → (HasCleanDisk new → IfErr r (FailsToQuery select_text (params_of area from to (Int (pos limit) ∷ [])) old new))
      → Survives old new (CommitsShowing select_text (params_of area from to (Int (pos limit) ∷ [])) old) → IsReady old m → Leaves old new r (λ _. ⊥)
  select_leaves m area from to limit r ok err survives h clean live = record {
    live = open_then r (ok clean);
    ended = shut_then r (err clean);
    left = λ db may. elim (survives.crash clean db may) [ inl was ↦ inl was | inr by ↦ inr (select_commits m h area from to limit clean live db by) ];
  }
    where
      open_then : (r : Result (Vec Row Global) Error) → IfOk r (λ rows. Shown select_text (params_of area from to (Int (pos limit) ∷ [])) old new rows.items) → OnOk r (IsTrue new.is_open)
      open_then (Ok rows) p = (shown_open select_text _ old new rows.items p).1
      open_then (Err e) p = tt

      shut_then : (r : Result (Vec Row Global) Error) → IfErr r (FailsToQuery select_text (params_of area from to (Int (pos limit) ∷ [])) old new) → OnErr r (IsTrue new.is_open ⊎ (new.in_transaction ≡ false))
      shut_then (Ok rows) p = tt
      shut_then (Err e) p = stops_ended old new (query_stops select_text _ old new e p)

  -- what was read, was read on an open connection
  pub select_open : (sql : List ℕ) (params : Row) (r : Result (Vec Row Global) Error) → (HasCleanDisk new → IfOk r (λ rows. Shown sql params old new rows.items)) → (HasCleanDisk new → IfErr r (FailsToQuery sql params old new)) → WasOpen old new
  select_open sql params (Ok rows) ok err clean live = (shown_open sql params old new rows.items (ok clean)).0
  select_open sql params (Err e) ok err clean live = stops_open old new (query_stops sql params old new e (err clean)) live
