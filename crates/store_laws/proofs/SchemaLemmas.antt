-- The trees determine the schema: what a file was closed with, an open finds again.
use Rattle.std.proofs.Common.{inl, inr, zero, suc, ◌≡◌, ◌+◌, ℕ, pos, List, [], ◌∷◌, slice_get, Some, Ok, Err, Result}
use Rattle.std.proofs.Common.{IfOk, IfSome, IsTrue, refl, sym, ap, ap₂, ◌∙◌, subst, arith}
use Rattle.std.specs.List.{AllZip}
use Rattle.std.specs.Result.{result_ok}
use Rattle.sqlite_disk.specs.declared.Disk.{Ghosts}
use Rattle.sqlite_disk.specs.declared.Files.{Files}
use Rattle.sqlite.specs.WalReads.{AreClean}
use Rattle.sqlite_store.specs.declared.store.FileStore.{FileStore}
use Rattle.sqlite.specs.State.{HasCleanDisk, IsLive}
use Rattle.sqlite.specs.Held.{Held}
use Rattle.sqlite.specs.Files.{file_state, Finds, IsOpened}
use Rattle.sqlite.specs.Closing.{IsCopied}
use Rattle.sqlite.proofs.Callers.{finds_again}
use Rattle.item_store.specs.Stands.{StandsFor}
use Rattle.sqlite.specs.declared.types.Value.{Value}
use Rattle.sqlite.specs.declared.types.Value.TheVariants.{Null, Int, Text}
use Rattle.sqlite.specs.Order.{Row, column}
use Rattle.sqlite.specs.Table.{Table}
use Rattle.sqlite.specs.Tree.{Trees}
use Rattle.sqlite.specs.Compile.{table_defined_by}
use Rattle.sqlite.specs.Effect.{Database, IsDatabase}
use Rattle.sqlite_schema.specs.declared.schema.Index.{Index}
use Rattle.sqlite_rules.specs.Lists.{Has}
use Rattle.sqlite_catalog.specs.Listing.{IsSound}
use Rattle.sqlite_catalog.specs.Listing.{IsTableRow, IsIndexRow, IsViewRow, IsDefined, automatic}
use Rattle.sqlite_resolve.specs.declared.error.CompileError.{CompileError}
use Rattle.item_maps.specs.Items.{Items}
use Rattle.item_store.specs.Items.{Holds}
use Rattle.item_store.specs.Stands.{IsTold}
use Rattle.item_store.specs.Table.{no_schema, item_schema, item_table}

-- two tables of one row are one
same_table : (row : Row) (s t : Table) → IsTableRow row s → IsTableRow row t → s ≡ t
same_table row s t a b =
    let texts : Text a.sql ≡ Text b.sql = sym a.sql_is ∙ b.sql_is in
    let sql : a.sql ≡ b.sql = cc in
    let both : Ok a.defined.0 ≡ Ok b.defined.0 = sym a.defined.1 ∙ ap table_defined_by sql ∙ b.defined.1 in
    let made : a.defined.0 ≡ b.defined.0 = cc in
    let ids : Int (pos (s.tree + 1)) ≡ Int (pos (t.tree + 1)) = sym a.described.id ∙ b.described.id in
    let nexts : s.tree + 1 ≡ t.tree + 1 = cc in
    let trees : s.tree ≡ t.tree = omega (arith, nexts) in
    a.defined.2 ∙ ap₂ (λ (m : Table) (n : ℕ). record m { tree = n }) made trees ∙ sym b.defined.2

none_zipped : {A B : Type 0} (R S : A → B → Type 0) (xs : List A) (ys : List B) → AllZip R xs [] → AllZip S xs ys → ys ≡ []
none_zipped R S [] [] p q = refl
none_zipped R S [] (y ∷ ys) p q = absurd q
none_zipped R S (x ∷ xs) ys p q = absurd p

one_zipped : {A B : Type 0} (R : A → B → Type 0) (S : A → B → Type 0) (xs : List A) (y : B) (zs : List B) → ((x : A) (z : B) → R x y → S x z → z ≡ y) → AllZip R xs (y ∷ []) → AllZip S xs zs → zs ≡ y ∷ []
one_zipped R S [] y zs same p q = absurd p
one_zipped R S (x ∷ []) y [] same p q = absurd q
one_zipped R S (x ∷ []) y (z ∷ []) same p q = ap (λ w. w ∷ []) (same x z p.0 q.0)
one_zipped R S (x ∷ []) y (z ∷ w ∷ zs) same p q = absurd q.1
one_zipped R S (x ∷ v ∷ xs) y zs same p q = absurd p.1

abbrev item_index : Index
item_index = automatic item_table 0 (1 ∷ 2 ∷ []) 1

only_item : (tables : List Table) (t : Table) → tables ≡ item_table ∷ [] → Has tables t → t ≡ item_table
only_item tables t only h = elim (subst (λ l. Has l t) only h) [ inl is ↦ is | inr none ↦ absurd none ]

one_key : (at : ℕ) (key : List ℕ) → slice_get item_table.uniques at ≡ Some key → (at ≡ 0) × (key ≡ 1 ∷ 2 ∷ [])
one_key zero key h = (refl, cc)
one_key (suc at) key h = absurd cc

made_same : {made other : Index} → ◌≡◌ {A = Result Index CompileError} (Ok made) (Ok other) → made ≡ other
made_same e = cc

-- an index that is listed beside the item table alone, at the row of its own index
same_index : (row : Row) (tables : List Table) (i : Index) → tables ≡ item_table ∷ [] → IsIndexRow (item_table ∷ []) row item_index → IsIndexRow tables row i → i ≡ item_index
same_index row tables i only a b = go (column row 4) (subst (λ t. IsDefined t item_index (column row 4)) first a.defined) (subst (λ t. IsDefined t i (column row 4)) second b.defined)
  where
    first : a.table ≡ item_table
    first = only_item (item_table ∷ []) a.table refl a.listed

    second : b.table ≡ item_table
    second = only_item tables b.table only b.listed

    ids : Int (pos (i.tree + 1)) ≡ Int (pos (1 + 1))
    ids = sym b.described.id ∙ a.described.id

    trees : i.tree ≡ 1
    trees = let nexts : i.tree + 1 ≡ 1 + 1 = cc in omega (arith, nexts)

    go : (v : Value) → IsDefined item_table item_index v → IsDefined item_table i v → i ≡ item_index
    go Null x y = let key = one_key y.0 y.1 y.2 in y.3 ∙ ap₂ (λ (n : ℕ) (k : List ℕ). automatic item_table n k i.tree) key.0 key.1 ∙ ap (λ (t : ℕ). automatic item_table 0 (1 ∷ 2 ∷ []) t) trees
    go (Text sql) x y =
        let made : y.0 ≡ x.0 = made_same (sym y.1 ∙ x.1) in
        y.2 ∙ ap₂ (λ (m : Index) (t : ℕ). record m { tree = t; table = item_table.tree }) made trees ∙ sym x.2
    go other x y = absurd y

pub same_items_schema : (old new : Database) → old.schema ≡ item_schema → IsDatabase old → IsDatabase new → new.trees ≡ old.trees → new.schema ≡ item_schema
same_items_schema old new has p q same =
    let was = subst (λ s. IsSound s old.trees) has p in
    let now = subst (λ t. IsSound new.schema t) same q in
    let tables : new.schema.tables ≡ item_table ∷ [] = one_zipped IsTableRow IsTableRow _ item_table new.schema.tables (λ row z a b. same_table row z item_table b a) was.lists.listed.tables now.lists.listed.tables in
    let indexes : new.schema.indexes ≡ item_index ∷ [] =
    one_zipped (IsIndexRow (item_table ∷ [])) (IsIndexRow new.schema.tables) _ item_index new.schema.indexes (λ row z a b. same_index row new.schema.tables z tables a b) was.lists.listed.indexes now.lists.listed.indexes in
    let views : new.schema.views ≡ [] = none_zipped IsViewRow IsViewRow _ new.schema.views was.lists.listed.views now.lists.listed.views in
    λ i. record { tables = tables i; indexes = indexes i; views = views i }

pub same_no_schema : (old new : Database) → old.schema ≡ no_schema → IsDatabase old → IsDatabase new → new.trees ≡ old.trees → new.schema ≡ no_schema
same_no_schema old new has p q same =
    let was = subst (λ s. IsSound s old.trees) has p in
    let now = subst (λ t. IsSound new.schema t) same q in
    let tables : new.schema.tables ≡ [] = none_zipped IsTableRow IsTableRow _ new.schema.tables was.lists.listed.tables now.lists.listed.tables in
    let indexes : new.schema.indexes ≡ [] = none_zipped (IsIndexRow []) (IsIndexRow new.schema.tables) _ new.schema.indexes was.lists.listed.indexes now.lists.listed.indexes in
    let views : new.schema.views ≡ [] = none_zipped IsViewRow IsViewRow _ new.schema.views was.lists.listed.views now.lists.listed.views in
    λ i. record { tables = tables i; indexes = indexes i; views = views i }

-- whatever database has the trees of one that has the items, has them too
pub told_again : (old new : Database) (m : Items) → IsTold old m → IsDatabase old → IsDatabase new → new.trees ≡ old.trees → IsTold new m
told_again old new m (inl none) p q same = inl (same_no_schema old new none.0 p q same, none.1)
told_again old new m (inr table) p q same = inr (record { schema = same_items_schema old new table.schema p q same; rows = subst (λ (t : Trees). Holds (t 0) m) (sym same) table.rows })

-- an open of the files that a close gave back stands for the same items
stands_again : {D : Type 0} {g : Ghosts D} (old new : Held (FileStore D g)) (files : Files D) (m : Items) → IsLive (file_state old) → (AreClean g files.log files.db → IsCopied old files)
    → (HasCleanDisk (file_state new) → IsOpened new) → (HasCleanDisk (file_state new) → Finds files new) → StandsFor (file_state old) m → StandsFor (file_state new) m
stands_again old new files m live closed opened found h clean open_now =
    let finds = found clean in
    let copied = closed finds.honest in
    let was = h copied.was_clean copied.was_open in
    let is = opened clean in
    record {
      autocommit = is.0.autocommit;
      same = is.0.clean;
      told = told_again (file_state old).committed (file_state new).committed m was.told (live copied.was_open).1 (is.1 open_now).1 (finds_again old new files closed finds);
    }

-- the same of an open that may fail
pub some_again : {D E : Type 0} {g : Ghosts D} (old : Held (FileStore D g)) (files : Files D) (m : Items) (r : Result (Held (FileStore D g)) E) → IsLive (file_state old) → (AreClean g files.log files.db → IsCopied old files)
    → IfOk r (λ c. HasCleanDisk (file_state c) → IsOpened c) → IfOk r (λ c. HasCleanDisk (file_state c) → Finds files c) → StandsFor (file_state old) m → IfSome (result_ok r) (λ again. StandsFor (file_state again) m)
some_again old files m (Ok again) live closed opened found h = stands_again old again files m live closed opened found h
some_again old files m (Err left) live closed opened found h = tt

pub open_again : {D E : Type 0} {g : Ghosts D} (r : Result (Held (FileStore D g)) E) → IfOk r (λ c. HasCleanDisk (file_state c) → IsOpened c) → IfSome (result_ok r) (λ again. HasCleanDisk (file_state again) → IsTrue (file_state again).is_open)
open_again (Ok again) opened = λ clean. (opened clean).0.is_open
open_again (Err left) opened = tt
