-- What each statement makes of a state.
use Rattle.std.proofs.Common.{◌≡◌, ℕ, ℤ, inl, inr, List, [], ◌∷◌, false, Option, Some, None, Ok, refl, sym, ap, ◌∙◌}
use Rattle.std.proofs.Common.{subst}
use Rattle.sqlite.specs.declared.types.Value.TheVariants.{Null}
use Rattle.sqlite.specs.Order.{Row}
use Rattle.sqlite.specs.Program.{overlay}
use Rattle.sqlite.specs.Tree.{Trees}
use Rattle.sqlite.specs.Command.TheVariants.{InsertOr, Delete, CreateTable, Nothing}
use Rattle.sqlite.specs.Source.TheVariants.{Values}
use Rattle.sqlite.specs.Rowids.TheVariants.{Given}
use Rattle.sqlite.specs.Edit.{next_rowid, edit_of, without_all, Applies}
use Rattle.sqlite.specs.Does.{Tally, Does}
use Rattle.sqlite.specs.Rows.{Written, Task, Tries, Judged, TriesEach, InsertsOr, Upserts, Deletes, nothing, count_of}
use Rattle.sqlite.specs.Effect.{Database}
use Rattle.sqlite.specs.declared.run.Mode.{Mode}
use Rattle.sqlite.specs.State.{State, Executes, Writes, mode_of}
use Rattle.sqlite.specs.Listing.{understood}
use Rattle.sqlite.proofs.Callers.{runs_as, one_step, statement_of}
use Rattle.sqlite_schema.specs.declared.command.Conflict.TheVariants.{Abort}
use Rattle.sqlite_schema.specs.declared.schema.Keys.TheVariants.{Enforced}
use Rattle.sqlite_rules.specs.declared.error.Refusal.{Refusal}
use Rattle.sqlite_rules.specs.Calls.{ids_of}
use Rattle.sqlite.specs.Change.{created, next_tree}
use Rattle.sqlite.specs.Does.{lacks_sequence}
use Rattle.sqlite.specs.State.{IsUnchanged}
use Rattle.std.specs.FinMap.{get-empty}
use Rattle.item_store.specs.Table.{no_schema, item_schema, item_table, upsert_text, delete_text, make_text}
use Rattle.item_maps.specs.Items.{Items, put, cleared, no_items, bytes_cmp}
use Rattle.item_store.specs.Items.{params_of, put_params, Holds, row_of}
use Rattle.item_store.proofs.Texts.{upsert, put_terms, upsert_is, upsert_plain, delete_query, delete_is, delete_plain}
use Rattle.item_store.proofs.Texts.{make_first, make_first_plain, make_again, make_again_plain}
use Rattle.item_store.proofs.ClearLemmas.{hits_of, clears}
use Rattle.item_store.proofs.PutLemmas.{new_row, source_row}
use Rattle.item_store.proofs.Upsert.{went, same_value, not_err, upserted}

module _ (limit : Option ℕ) (db : Trees) (m : Items) (h : Holds (db 0) m) (area : ℕ) (label body : List ℕ) where
  abbrev task : Task
  task = record { limit = limit; keys = Enforced; schema = item_schema; table = item_table; params = put_params area label body }

  abbrev new : Row
  new = row_of (next_rowid (db 0)) area label body

  judged : (one : Written) (verdict : Option Refusal) → Judged task Abort (upsert ∷ []) new db verdict (Ok one) → Upserts task Abort new db (upsert ∷ []) (Ok one)
  judged one None p = p
  judged one (Some why) p = absurd (not_err p)

  tried : (one : Written) → Tries task Abort (upsert ∷ []) new db (Ok one) → Upserts task Abort new db (upsert ∷ []) (Ok one)
  tried one (inl p) = absurd (not_err p.1)
  tried one (inr p) = judged one p.0 p.2

  pub puts_rows : (done : Written) → InsertsOr task Abort (upsert ∷ []) (Values put_terms 4) db (Ok done) → Holds (done.trees 0) (put area label body m)
  puts_rows done p =
      let g = went p in
      let k = went g.2 in
      let t = went k.2 in
      let c = went t.2 in
      let source : g.0 ≡ source_row area label body ∷ [] = g.1.1 in
      let each = subst (λ (rows : List Row). TriesEach task Abort (upsert ∷ []) rows (count_of k.0) (nothing db) (Ok t.0)) source t.1 in
      let one = went each in
      let ups = tried one.0 (subst (λ (n : Row). Tries task Abort (upsert ∷ []) n db (Ok one.0)) (new_row (db 0) area label body) one.1) in
      let last : done.trees ≡ c.0 = ap (λ (w : Written). w.trees) (same_value c.2) in
      let mid : c.0 ≡ t.0.0.trees = same_value c.1 in
      let first : t.0.0.trees ≡ one.0.trees = ap (λ (w : Written × ℤ). w.0.trees) (same_value one.2) in
      subst (λ (trees : Trees). Holds (trees 0) (put area label body m)) (sym (last ∙ mid ∙ first)) (upserted limit [] db m h area label body one.0 ups)

pub puts_state : (old new : State) (m : Items) (area : ℕ) (label body : List ℕ) (count : ℕ) → old.now.schema ≡ item_schema → Holds (old.now.trees 0) m
    → Executes upsert_text (put_params area label body) old new (Ok count)
    → (new.now.schema ≡ item_schema) × Holds (new.now.trees 0) (put area label body m) × Writes old new None (InsertOr 0 Abort (Values put_terms 4) (upsert ∷ [])) (statement_of upsert_text (understood item_schema upsert_text)) (put_params area label body) count
puts_state old new m area label body count has h ran =
    let params = put_params area label body in
    let command = InsertOr 0 Abort (Values put_terms 4) (upsert ∷ []) in
    let w = runs_as upsert_text params old new item_schema has command upsert_is upsert_plain count ran in
    let text = statement_of upsert_text (understood item_schema upsert_text) in
    let done = went (subst (λ s. Does old.step_limit (mode_of old) params (record old.now { schema = s }) text None command (Ok (w.tally, new.now))) has w.changed) in
    let now : new.now ≡ record { schema = item_schema; trees = done.0.trees } = ap (λ (p : Tally × Database). p.1) (same_value (went (went done.2).2).2) in
    (ap (λ (d : Database). d.schema) now, subst (λ (d : Database). Holds (d.trees 0) (put area label body m)) (sym now) (puts_rows old.step_limit old.now.trees m h area label body done.0 done.1), w)

-- ---- DELETE

clears_rows : (limit : Option ℕ) (params : Row) (db : Trees) (m : Items) (h : Holds (db 0) m) (area : ℕ) (from to : List ℕ) (done : Written)
    → Deletes (record { limit = limit; keys = Enforced; schema = item_schema; table = item_table; params = params_of area from to [] }) (record { lets = []; body = delete_query }) db (Ok done)
    → Holds (done.trees 0) (cleared area from to m)
clears_rows limit params db m h area from to done p =
    let g = went p in
    let e = went g.2 in
    let edit = edit_of db item_table (ids_of g.0) Given 0 [] in
    let applied : Applies item_schema Enforced db edit e.0 = one_step item_schema Enforced db e.0 edit refl e.1 in
    let trees : done.trees ≡ e.0 = ap (λ (w : Written). w.trees) (same_value e.2) in
    let rows : done.trees 0 ≡ without_all (db 0) (ids_of g.0) = ap (λ (t : Trees). t 0) trees ∙ applied.rows in
    subst (λ rs. Holds rs (cleared area from to m)) (sym rows) (clears m (db 0) h area from to (ids_of g.0) (hits_of (overlay db []) (params_of area from to []) g.0 (g.1.answer Null)))

pub clears_state : (old new : State) (m : Items) (area : ℕ) (from to : List ℕ) (count : ℕ) → old.now.schema ≡ item_schema → Holds (old.now.trees 0) m
    → Executes delete_text (params_of area from to []) old new (Ok count)
    → (new.now.schema ≡ item_schema) × Holds (new.now.trees 0) (cleared area from to m) × Writes old new None (Delete 0 (record { lets = []; body = delete_query })) (statement_of delete_text (understood item_schema delete_text)) (params_of area from to []) count
clears_state old new m area from to count has h ran =
    let params = params_of area from to [] in
    let command = Delete 0 (record { lets = []; body = delete_query }) in
    let w = runs_as delete_text params old new item_schema has command delete_is delete_plain count ran in
    let text = statement_of delete_text (understood item_schema delete_text) in
    let done = went (subst (λ s. Does old.step_limit (mode_of old) params (record old.now { schema = s }) text None command (Ok (w.tally, new.now))) has w.changed) in
    let now : new.now ≡ record { schema = item_schema; trees = done.0.trees } = ap (λ (p : Tally × Database). p.1) (same_value (went (went done.2).2).2) in
    (ap (λ (d : Database). d.schema) now, subst (λ (d : Database). Holds (d.trees 0) (cleared area from to m)) (sym now) (clears_rows old.step_limit [] old.now.trees m h area from to done.0 done.1), w)

-- ---- CREATE TABLE IF NOT EXISTS

pub none_held : Holds [] no_items
none_held = record {
  table = tt;
  sound = λ row none. absurd none;
  complete = λ area label body some. absurd (let none = get-empty bytes_cmp label in none_some (sym none ∙ some));
  single = λ area label i j b c none. absurd none;
}
  where
    none_some : {X : Type 0} {x : X} → ◌≡◌ {A = Option X} None (Some x) → ⊥
    none_some e = cc

pub makes_db : (limit : Option ℕ) (mode : Mode) (params : Row) (old after : Database) (tally : Tally) → old.schema ≡ no_schema → Does limit mode params old make_text None CreateTable (Ok (tally, after))
    → (after.schema ≡ item_schema) × (after.trees 0 ≡ [])
makes_db limit mode params old after tally has does =
    let all = went does in
    let first = went all.1 in
    let made = first.1 in
    let both : Ok made.table ≡ Ok item_table = sym made.defined ∙ make_first.2 in
    let same : made.table ≡ item_table = cc in
    let schema : first.0.schema ≡ item_schema = made.is ∙ ap (λ s. created s made.table) has ∙ ap (created no_schema) same in
    let plain : lacks_sequence first.0.schema ≡ false = ap lacks_sequence schema in
    let now : after ≡ first.0 = ap (λ (p : Tally × Database). p.1) (same_value all.2) ∙ same_value (rw plain at first.2) in
    (ap (λ (d : Database). d.schema) now ∙ schema, ap (λ (d : Database). d.trees 0) now ∙ subst (λ s. first.0.trees (next_tree s) ≡ []) has made.empty)

pub makes_state : (old new : State) (count : ℕ) → old.now.schema ≡ no_schema → Executes make_text [] old new (Ok count)
    → (new.now.schema ≡ item_schema) × (new.now.trees 0 ≡ []) × Writes old new None CreateTable make_text [] count
makes_state old new count has ran =
    let w = subst (λ t. Writes old new None CreateTable t [] count) make_first.1 (runs_as make_text [] old new no_schema has CreateTable make_first.0 make_first_plain count ran) in
    let made = makes_db old.step_limit (mode_of old) [] old.now new.now w.tally has w.changed in
    (made.0, made.1, w)

pub made_again : (old new : State) (count : ℕ) → old.now.schema ≡ item_schema → Executes make_text [] old new (Ok count) → IsUnchanged old new
made_again old new count has ran = (runs_as make_text [] old new item_schema has Nothing make_again make_again_plain count ran).0
