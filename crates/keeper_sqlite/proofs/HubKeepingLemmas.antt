-- Stores whose items keep a state, before and after a call.
use Rattle.std.proofs.Common.{◌≡◌, ◌+◌, ◌<◌, ◌^◌, ℕ, List, [], ◌∷◌, get_or, Result, Ok, Err, OnOk, OnErr, inl, inr, map}
use Rattle.std.proofs.Common.{refl, sym, ap, subst, ◌∙◌, arith}
use Rattle.std.specs.List.{AllByRecursion}
use Rattle.item_maps.specs.Edits.{after, entry_of}
use Rattle.item_maps.specs.Items.{Items, is_between, listed, no_items}
use Rattle.item_maps.specs.declared.item.Edit.{Edit}
use Rattle.item_maps.specs.declared.item.Item.{Item}
use Rattle.keeper_memory.specs.Commits.{CanCommit, with_commit}
use Rattle.keeper_memory.specs.Kept.{KeptState, kept_by}
use Rattle.keeper_memory.specs.declared.hub_commit.HubCommit.{HubCommit}
use Rattle.version_core.specs.Table.{LeadOn}
use Rattle.version_core.specs.Tables.{AreTables}
use Rattle.version_core.specs.declared.change.Change.{Change}
use Rattle.version_core.specs.declared.hub_tables.HubTables.{HubTables}
use Rattle.hub_format.specs.Format.{Entry, Fit, Keep, first_format, format_entry, items_of, listed_of, new_tables, where_label, written_format}
use Rattle.hub_format.proofs.Listing.{listed_where}
use Rattle.hub_format.proofs.Orders.{same_number}
use Rattle.hub_format.proofs.TableListings.{IsToldBy, base_grants_told, base_rows_told, changes_told, format_told}
use Rattle.hub_format.proofs.Unique.{kept_once as kept_once_in_1}
use Rattle.span_format.specs.Edits.{edits, first_edits, turn_edits}
use Rattle.span_format.specs.Format.{FitSpans, FitsSpanCommit, KeepSpans, Span, items_in, own_spans}
use Rattle.span_format.specs.Oldest.{AreOldest}
use Rattle.span_format.specs.Reading.{came_within}
use Rattle.span_format.proofs.Keeping.{Keep-commit, first_kept}
use Rattle.span_format.proofs.Naming.{oldest_named}
use Rattle.span_format.proofs.SpanListings as span_told
use Rattle.span_format.proofs.Turning.{turned}
use Rattle.span_format.proofs.Unique.{kept_once}
use Rattle.keeper_sqlite.specs.declared.hub.rows.StoredRows.TheVariants.{Areas, Spans}
use Rattle.keeper_sqlite.specs.hub.Keeping.{KeepEither, KeepOrNew, Keeps, Stay}
use Rattle.keeper_sqlite.specs.hub.Rows.{HasRows, HasSpans, HasTables, TellChange}
use Rattle.hub_format.specs.Areas.{format_area, grants_area, names_area, spans_area, versions_area}
use Rattle.hub_format.specs.Pieces.{labels_end}

pub on_each : {T E P : Type 0} (r : Result T E) → P → OnOk r P
on_each (Ok x) p = p
on_each (Err e) p = tt

pub on_any : {T E P : Type 0} (r : Result T E) → P → OnErr r P
on_any (Ok x) p = tt
on_any (Err e) p = p

pub keeps_on : {X : Type 0} (keep : Items → X → Type 0) (old new : Items → Type 0) (state : X) (this : Keeps keep old state) → new this.items → Keeps keep new state
keeps_on keep old new state this stands = record { items = this.items; stands = stands; kept = this.kept }

pub keeps_or_new : (keep : ℕ) (stand : Items → Type 0) (state : KeptState) → Keeps KeepSpans stand state → Keeps (KeepOrNew keep) stand state
keeps_or_new keep stand state this = record { items = this.items; stands = this.stands; kept = inl this.kept }

pub keeps_either : (stand : Items → Type 0) (state : KeptState) → Keeps KeepSpans stand state → Keeps KeepEither stand state
keeps_either stand state this = record { items = this.items; stands = this.stands; kept = inl this.kept }

pub some_kept : (keep : ℕ) (items : Items) (state : KeptState) → KeepEither items state → KeepOrNew keep items state
some_kept keep items state (inl kept) = inl kept
some_kept keep items state (inr old) = inr (inl old)

pub some_keeps : (keep : ℕ) (stand : Items → Type 0) (state : KeptState) → Keeps KeepEither stand state → Keeps (KeepOrNew keep) stand state
some_keeps keep stand state this = record { items = this.items; stands = this.stands; kept = some_kept keep this.items state this.kept }

-- ---- the tables of a store

abbrev pub spans_of : (stand : Items → Type 0) (state : KeptState) (this : Keeps KeepSpans stand state) → HasSpans stand this.kept.tables
spans_of stand state this = record {
  base = this.kept.base;
  stands = subst stand this.kept.stored this.stands;
  spans = this.kept.spans;
  are = this.kept.are;
  fit = this.kept.fit;
  plain = this.kept.plain;
}

abbrev pub spans_stay : (old new : Items → Type 0) (t : HubTables) → Stay old new → HasSpans old t → HasSpans new t
spans_stay old new t stay has = record { base = has.base; stands = stay (items_in has.base t) has.stands; spans = has.spans; are = has.are; fit = has.fit; plain = has.plain }

abbrev pub tables_of : (stand : Items → Type 0) (t : HubTables) → HasSpans stand t → HasTables stand t
tables_of stand t has = record { items = items_in has.base t; stands = has.stands; state = refl; versions = refl; grants = refl; marks = refl; are = has.are; fit = has.fit }

abbrev pub tables_stay : (old new : Items → Type 0) (t : HubTables) → Stay old new → HasTables old t → HasTables new t
tables_stay old new t stay has = record {
  items = has.items;
  stands = stay has.items has.stands;
  state = has.state;
  versions = has.versions;
  grants = has.grants;
  marks = has.marks;
  are = has.are;
  fit = has.fit;
}

-- items that are alike in an area list the same there
pub listed_alike : (area : ℕ) (from to : List ℕ) (m n : Items) → m area ≡ n area → listed area from to m ≡ listed area from to n
listed_alike area from to m n same = ap (λ entries. listed area from to (λ _. entries)) same

-- format 1 has the rows in areas of their own
pub rows_in_areas : (stand : Items → Type 0) (state : KeptState) (this : Keeps Keep stand state) → HasRows stand Areas this.kept.tables
rows_in_areas stand state this =
    let t = this.kept.tables in
    record {
      changes = record {
        tables = record {
          items = items_of t;
          stands = subst stand this.kept.stored this.stands;
          state = refl;
          versions = refl;
          grants = refl;
          marks = refl;
          are = this.kept.are;
          fit = this.kept.fit;
        };
        rows = each t t.changes (changes_told t this.kept.are this.kept.fit);
      };
      base = base_rows_told t this.kept.are;
    }
  where
    each : (t : HubTables) (changes : List Change) → AllByRecursion (IsToldBy (items_of t)) changes → AllByRecursion (TellChange Areas (items_of t)) changes
    each t [] told = tt
    each t (change ∷ changes) told = (told.0.rows, each t changes told.1)

-- format 2 has them as spans
pub rows_in_spans : (stand : Items → Type 0) (t : HubTables) → HasSpans stand t → HasRows stand Spans t
rows_in_spans stand t has = record {
  changes = record {
    tables = tables_of stand t has;
    rows = each t.changes (span_told.changes_told has.base t has.are has.spans has.plain);
  };
  base = (has.base, span_told.base_told has.base t has.are has.spans has.plain, has.spans);
}
  where
    each : (changes : List Change) → AllByRecursion (λ change. where_label (came_within change.version change.version) (listed spans_area [] labels_end (items_in has.base t)) ≡ own_spans change) changes
        → AllByRecursion (TellChange Spans (items_in has.base t)) changes
    each [] told = tt
    each (change ∷ changes) told = (told.0, each changes told.1)

-- ---- the number of the format

pub none_listed : listed format_area [] (0 ∷ []) no_items ≡ []
none_listed = listed_where (is_between [] (0 ∷ [])) [] [] refl refl

second : (items : Items) (state : KeptState) → KeepSpans items state → listed format_area [] (0 ∷ []) items ≡ format_entry written_format ∷ []
second items state kept = ap (listed format_area [] (0 ∷ [])) kept.stored ∙ listed_where (is_between [] (0 ∷ [])) (format_entry written_format ∷ []) (format_entry written_format ∷ []) refl refl

first : (items : Items) (state : KeptState) → Keep items state → listed format_area [] (0 ∷ []) items ≡ format_entry first_format ∷ []
first items state kept = ap (listed format_area [] (0 ∷ [])) kept.stored ∙ format_told kept.tables

pub none : (items : Items) → items ≡ no_items → listed format_area [] (0 ∷ []) items ≡ []
none items is = ap (listed format_area [] (0 ∷ [])) is ∙ none_listed

-- where neither format is told, there are no items
pub is_new : (keep : ℕ) (items : Items) (state : KeptState) (told : List Entry) → KeepOrNew keep items state → told ≡ listed format_area [] (0 ∷ []) items → (told ≡ format_entry first_format ∷ [] → ⊥) → (told ≡ format_entry written_format ∷ [] → ⊥)
    → (items ≡ no_items) × (state ≡ kept_by (new_tables keep))
is_new keep items state told (inl kept) is one two = absurd (two (is ∙ second items state kept))
is_new keep items state told (inr (inl old)) is one two = absurd (one (is ∙ first items state old))
is_new keep items state told (inr (inr new)) is one two = new

-- where format 2 isn't told, but some format, they keep the state in format 1
pub is_old : (keep : ℕ) (items : Items) (state : KeptState) (told : List Entry) → KeepOrNew keep items state → told ≡ listed format_area [] (0 ∷ []) items → (told ≡ [] → ⊥) → (told ≡ format_entry written_format ∷ [] → ⊥) → Keep items state
is_old keep items state told (inl kept) is some two = absurd (two (is ∙ second items state kept))
is_old keep items state told (inr (inl old)) is some two = old
is_old keep items state told (inr (inr new)) is some two = absurd (some (is ∙ none items new.0))

-- and where format 1 isn't, in format 2
pub is_kept : (keep : ℕ) (items : Items) (state : KeptState) (told : List Entry) → KeepOrNew keep items state → told ≡ listed format_area [] (0 ∷ []) items → (told ≡ [] → ⊥) → (told ≡ format_entry first_format ∷ [] → ⊥) → KeepSpans items state
is_kept keep items state told (inl kept) is some one = kept
is_kept keep items state told (inr (inl old)) is some one = absurd (one (is ∙ first items state old))
is_kept keep items state told (inr (inr new)) is some one = absurd (some (is ∙ none items new.0))

not_two : (items : Items) (state : KeptState) → KeepSpans items state → items ≡ no_items → ⊥
not_two items state kept is = let told : [] ≡ format_entry written_format ∷ [] = sym (none items is) ∙ second items state kept in cc

not_one : (items : Items) (state : KeptState) → Keep items state → items ≡ no_items → ⊥
not_one items state old is = let told : [] ≡ format_entry first_format ∷ [] = sym (none items is) ∙ first items state old in cc

not_both : (items : Items) (state other : KeptState) → KeepSpans items state → Keep items other → ⊥
not_both items state other kept old =
    let told : format_entry written_format ∷ [] ≡ format_entry first_format ∷ [] = sym (second items state kept) ∙ first items other old in
    let same = same_number 2 1 (omega arith) (omega arith) (ap (λ (es : List Entry). (get_or es 0 ([], [])).1) told) in
    omega (arith, same)

-- items keep one state at most, and no items keep version 0 alone
pub one_state : (keep : ℕ) (items : Items) (state other : KeptState) → KeepOrNew keep items state → KeepOrNew keep items other → state ≡ other
one_state keep items state other (inl a) (inl b) = kept_once items state other a b
one_state keep items state other (inl a) (inr (inl b)) = absurd (not_both items state other a b)
one_state keep items state other (inl a) (inr (inr b)) = absurd (not_two items state a b.0)
one_state keep items state other (inr (inl a)) (inl b) = absurd (not_both items other state b a)
one_state keep items state other (inr (inl a)) (inr (inl b)) = kept_once_in_1 items state other a b
one_state keep items state other (inr (inl a)) (inr (inr b)) = absurd (not_one items state a b.0)
one_state keep items state other (inr (inr a)) (inl b) = absurd (not_two items other b a.0)
one_state keep items state other (inr (inr a)) (inr (inl b)) = absurd (not_one items other b a.0)
one_state keep items state other (inr (inr a)) (inr (inr b)) = a.1 ∙ sym b.1

-- ---- edits

-- the first edits make a new store one that keeps version 0
pub first_keeps : (keep : ℕ) (state : KeptState) (goes : List Edit) (items : Items) → keep < 2 ^ 64 → goes ≡ first_edits keep → (items ≡ no_items) × (state ≡ kept_by (new_tables keep)) → KeepSpans (after goes items) state
first_keeps keep state goes items fits is none =
    let start : KeepSpans (after (first_edits keep) no_items) state = subst (KeepSpans (after (first_edits keep) no_items)) (sym none.1) (first_kept keep fits) in
    subst (λ m. KeepSpans m state) (sym (λ i. after (is i) (none.0 i))) start

pub made_new : (keep : ℕ) (new : Items → Type 0) (state : KeptState) (goes : List Edit) (items : Items) → keep < 2 ^ 64 → goes ≡ first_edits keep → (items ≡ no_items) × (state ≡ kept_by (new_tables keep))
    → new (after goes items) → Keeps KeepSpans new state
made_new keep new state goes items fits is none stands = record { items = after goes items; stands = stands; kept = first_keeps keep state goes items fits is none }

-- a store of format 1 keeps the same state in format 2, by the edits of the tables that were read from it
pub turned_keeps : (state : KeptState) (goes : List Edit) (items : Items) (old : Keep items state) (read : HubTables) → read ≡ old.tables → goes ≡ turn_edits read → FitSpans read → KeepSpans (after goes items) state
turned_keeps state goes items old read same is plain =
    subst (λ es. KeepSpans (after es items) state) (sym (is ∙ ap turn_edits same)) (turned items state old (subst FitSpans same plain))

pub made_turned : (new : Items → Type 0) (state : KeptState) (goes : List Edit) (items : Items) (old : Keep items state) (read : HubTables) → read ≡ old.tables → goes ≡ turn_edits read → FitSpans read
    → new (after goes items) → Keeps KeepSpans new state
made_turned new state goes items old read same is plain stands = record { items = after goes items; stands = stands; kept = turned_keeps state goes items old read same is plain }

-- the edits of a commit lead to what is kept after it
pub commit_keeps : (items : Items) (state : KeptState) (commit : HubCommit) (kept : KeepSpans items state) (goes : List Edit) → CanCommit state commit → FitsSpanCommit commit → goes ≡ edits kept.tables commit
    → KeepSpans (after goes items) (with_commit state commit)
commit_keeps items state commit kept goes can fits is = subst (λ es. KeepSpans (after es items) (with_commit state commit)) (sym is) (Keep-commit items state commit kept can fits)

pub committed : (old new : Items → Type 0) (state : KeptState) (commit : HubCommit) (this : Keeps KeepSpans old state) (goes : List Edit) → CanCommit state commit → FitsSpanCommit commit → goes ≡ edits this.kept.tables commit
    → new (after goes this.items) → Keeps KeepSpans new (with_commit state commit)
committed old new state commit this goes can fits is stands = record {
  items = after goes this.items;
  stands = stands;
  kept = commit_keeps this.items state commit this.kept goes can fits is;
}

pub can_here : (stand : Items → Type 0) (state : KeptState) (commit : HubCommit) (this : Keeps KeepSpans stand state) → CanCommit state commit → CanCommit (kept_by this.kept.tables) commit
can_here stand state commit this can = subst (λ (s : KeptState). CanCommit s commit) this.kept.same can

-- what is listed behind the base's number and the next is of the oldest versions
pub oldest_told : (base_spans : List Span) (t : HubTables) (are : AreTables t) (fit : Fit t) (base : ℕ) (grants first named : List Item) → base ≡ t.base.number
    → map entry_of grants ≡ listed_of grants_area base (items_in base_spans t) → map entry_of first ≡ listed_of versions_area (base + 1) (items_in base_spans t)
    → map entry_of named ≡ listed_of names_area (base + 1) (items_in base_spans t) → AreOldest t grants first named
oldest_told base_spans t are fit base grants first named bases is_grants is_first is_named = record {
  grants = is_grants ∙ ap (λ n. listed_of grants_area n (items_of t)) bases ∙ base_grants_told t are fit;
  version = λ oldest changes is. is_first ∙ ap (λ n. listed_of versions_area n (items_of t)) (next oldest changes is) ∙ (first_told oldest changes is).version;
  names = λ oldest changes is. is_named ∙ ap (λ n. listed_of names_area n (items_in base_spans t)) (next oldest changes is) ∙ oldest_named base_spans t oldest changes are is;
}
  where
    next : (oldest : Change) (changes : List Change) → t.changes ≡ oldest ∷ changes → base + 1 ≡ oldest.version
    next oldest changes is = let lead = subst (LeadOn t.base.number) is are.lead in ap (λ n. n + 1) bases ∙ sym lead.0

    first_told : (oldest : Change) (changes : List Change) → t.changes ≡ oldest ∷ changes → IsToldBy (items_of t) oldest
    first_told oldest changes is = (subst (AllByRecursion (IsToldBy (items_of t))) is (changes_told t are fit)).0
