-- What the checker makes of the texts.
use Rattle.std.proofs.Common.{◌≡◌, pos, negsuc, List, [], ◌∷◌, codes, false, Some, None, Ok, refl}
use Rattle.sqlite.specs.declared.types.Value.TheVariants.{Null, Int}
use Rattle.sqlite.specs.Schema.{Schema}
use Rattle.sqlite.specs.Term.{Term, lit, col, op2}
use Rattle.sqlite.specs.Query.{Query, inner, end}
use Rattle.sqlite.specs.Collation.TheVariants.{Binary}
use Rattle.sqlite.specs.Command.TheVariants.{Select, Delete, CreateTable, Nothing, InsertOr, Begin, Commit, Rollback}
use Rattle.sqlite.specs.Source.TheVariants.{Values}
use Rattle.sqlite_sql.specs.declared.ops.BinaryOp.TheVariants.{Compare}
use Rattle.sqlite_sql.specs.declared.ops.CompareOp.TheVariants.{Eq, Lt, Ge}
use Rattle.sqlite_value.specs.Keys.{ascending}
use Rattle.sqlite_schema.specs.declared.command.Conflict.TheVariants.{Abort}
use Rattle.sqlite_schema.specs.declared.command.Upsert.{Upsert}
use Rattle.sqlite.specs.Compile.{table_defined_by}
use Rattle.sqlite_tied.specs.Compute.{everything}
use Rattle.sqlite.specs.Listing.{understood, reads_listing}
use Rattle.sqlite.proofs.Callers.{command_of, IsPlain, statement_of}
use Rattle.item_store.specs.Table.{no_schema, item_schema, make_text, select_text, delete_text, upsert_text, begin_text}
use Rattle.item_store.specs.Table.{commit_text, rollback_text, no_text, item_table}

-- the filter of a range: its parameters are the area and the two ends
abbrev pub in_range_terms : List Term
in_range_terms =
    op2 (Compare Eq Binary) (col 1 1) (col 0 0) ∷ op2 (Compare Ge Binary) (col 1 2) (col 0 1) ∷ op2 (Compare Lt Binary) (col 1 2) (col 0 2) ∷ []

abbrev pub select_query : Query
select_query = record {
  from = inner 0 end;
  filter = in_range_terms;
  group = None;
  project = col 1 2 ∷ col 1 3 ∷ [];
  distinct = false;
  collations = [];
  order = (col 1 2, ascending Binary) ∷ [];
  limit = col 0 3;
  offset = lit (Int (pos 0));
}

abbrev pub delete_query : Query
delete_query = record {
  from = inner 0 end;
  filter = in_range_terms;
  group = None;
  project = col 1 0 ∷ [];
  distinct = false;
  collations = [];
  order = [];
  limit = lit (Int (negsuc 0));
  offset = lit (Int (pos 0));
}

pub select_is : command_of (understood item_schema select_text) ≡ Select (record { lets = []; body = select_query }) (codes "label" ∷ codes "body" ∷ [])
unfolding understood everything
select_is = refl

pub delete_is : command_of (understood item_schema delete_text) ≡ Delete 0 (record { lets = []; body = delete_query })
unfolding understood everything
delete_is = refl

pub select_plain : IsPlain (understood item_schema select_text)
unfolding understood everything
select_plain = (refl, refl)

pub select_unlisted : reads_listing item_schema select_text ≡ false
unfolding understood everything
select_unlisted = refl

pub delete_plain : IsPlain (understood item_schema delete_text)
unfolding understood everything
delete_plain = (refl, refl)

abbrev pub put_terms : List Term
put_terms = lit Null ∷ col 0 0 ∷ col 0 1 ∷ col 0 2 ∷ []

-- the new body goes to the row with the rowid, which is the fourth parameter
abbrev pub update_query : Query
update_query = record {
  from = inner 0 end;
  filter = op2 (Compare Eq Binary) (col 1 0) (col 0 3) ∷ [];
  group = None;
  project = col 1 0 ∷ col 1 0 ∷ col 1 1 ∷ col 1 2 ∷ col 0 7 ∷ [];
  distinct = false;
  collations = [];
  order = [];
  limit = lit (Int (negsuc 0));
  offset = lit (Int (pos 0));
}

abbrev pub upsert : Upsert
upsert = record { target = Some (1 ∷ 2 ∷ []); update = Some (record { lets = []; body = update_query }) }

pub upsert_is : command_of (understood item_schema upsert_text) ≡ InsertOr 0 Abort (Values put_terms 4) (upsert ∷ [])
unfolding understood everything
upsert_is = refl

pub upsert_plain : IsPlain (understood item_schema upsert_text)
unfolding understood everything
upsert_plain = (refl, refl)

pub make_first : (command_of (understood no_schema make_text) ≡ CreateTable) × (statement_of make_text (understood no_schema make_text) ≡ make_text) × (table_defined_by make_text ≡ Ok item_table)
unfolding understood everything
make_first = (refl, refl, refl)

pub make_first_plain : IsPlain (understood no_schema make_text)
unfolding understood everything
make_first_plain = (refl, refl)

pub make_again : command_of (understood item_schema make_text) ≡ Nothing
unfolding understood everything
make_again = refl

pub make_again_plain : IsPlain (understood item_schema make_text)
unfolding understood everything
make_again_plain = (refl, refl)

pub begin_is : command_of (understood item_schema begin_text) ≡ Begin
unfolding understood everything
begin_is = refl

pub begin_plain : IsPlain (understood item_schema begin_text)
unfolding understood everything
begin_plain = (refl, refl)

pub commit_is : command_of (understood item_schema commit_text) ≡ Commit
unfolding understood everything
commit_is = refl

pub commit_plain : IsPlain (understood item_schema commit_text)
unfolding understood everything
commit_plain = (refl, refl)

pub rollback_is : command_of (understood item_schema rollback_text) ≡ Rollback
unfolding understood everything
rollback_is = refl

-- of any schema
pub commit_any : (s : Schema) → command_of (understood s commit_text) ≡ Commit
unfolding understood everything
commit_any s = refl

pub commit_any_plain : (s : Schema) → IsPlain (understood s commit_text)
unfolding understood everything
commit_any_plain s = (refl, refl)

pub nothing_any : (s : Schema) → command_of (understood s no_text) ≡ Nothing
unfolding understood everything
nothing_any s = refl

pub nothing_any_plain : (s : Schema) → IsPlain (understood s no_text)
unfolding understood everything
nothing_any_plain s = (refl, refl)
