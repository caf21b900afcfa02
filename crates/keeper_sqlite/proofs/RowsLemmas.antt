-- Rows where a store has them.
use Rattle.std.proofs.Common.{◌≡◌, ◌≢◌, ◌<◌, ◌≤◌, ◌^◌, ◌&&◌, ℕ, List, [], ◌∷◌, ◌++◌, Bool, BTreeMap, false, map, refl}
use Rattle.std.proofs.Common.{sym, ap, subst, ◌∙◌, append-nil, arith, inl, inr}
use Rattle.std.proofs.Math.Bool.{and-false}
use Rattle.std.specs.Prelude.{nat_le}
use Rattle.std.specs.List.{AllByRecursion}
use Rattle.std.proofs.lemmas.Bool.{cases_eq, cases_lt}
use Rattle.std.proofs.lemmas.List.{map-append}
use Rattle.std.proofs.lemmas.Bool.Decides.{nat_tests}
use Rattle.item_maps.specs.Edits.{entry_of}
use Rattle.item_maps.specs.Items.{Items, listed}
use Rattle.item_maps.specs.declared.item.Item.{Item}
use Rattle.version_core.specs.Table.{LeadOn}
use Rattle.version_core.specs.declared.change.BaseVersion.{BaseVersion}
use Rattle.version_core.specs.declared.change.Change.{Change}
use Rattle.version_core.specs.declared.hub_tables.HubTables.{HubTables}
use Rattle.version_core.specs.declared.row_change.RowChange.{RowChange}
use Rattle.hub_format.specs.Format.{Entry, where_label}
use Rattle.hub_format.specs.Pieces.{IsReadBack, labels_end}
use Rattle.hub_format.proofs.EntryMaps.{where-append}
use Rattle.span_format.specs.Format.{Span, span_entry, spans_from}
use Rattle.span_format.specs.Reading.{FitsSpan, came, came_within}
use Rattle.span_format.proofs.Turning.{rows_are}
use Rattle.keeper_sqlite.proofs.HubKeepingLemmas.{tables_stay}
use Rattle.keeper_sqlite.specs.declared.hub.rows.ChangeRows.{ChangeRows}
use Rattle.keeper_sqlite.specs.declared.hub.rows.ChangeRows.TheVariants.{Laid}
use Rattle.keeper_sqlite.specs.declared.hub.rows.StoredRows.{StoredRows}
use Rattle.keeper_sqlite.specs.declared.hub.rows.StoredRows.TheVariants.{Spans}
use Rattle.keeper_sqlite.specs.hub.Keeping.{Stay}
use Rattle.keeper_sqlite.specs.hub.Rows.{AreLaid, AreMade, HasChanges, TellBase, TellChange, TellLater, laid_at}
use Rattle.hub_format.specs.Areas.{spans_area}

-- ---- items that are laid out

apart : (v n : ℕ) → (v ≡ n → ⊥) → (nat_le v n && nat_le n v) ≡ false
apart v n other = elim (cases_lt v n) [
  | inl lt ↦ let no : nat_le n v ≡ false = grind (arith, nat_tests) in rw no (and-false (nat_le v n))
  | inr ge ↦ let no : nat_le v n ≡ false = grind (arith, nat_tests) in rw no refl
]

module _ (base : ℕ) (item : Item) (seen : List Entry) (old : BTreeMap ℕ (List Item)) (laid : AreLaid base seen old) where
  misses : (p : List ℕ → Bool) → p item.label ≡ false → where_label p seen ≡ where_label p (seen ++ entry_of item ∷ [])
  misses p miss = sym (where-append p seen (entry_of item ∷ []) ∙ rw miss (append-nil (where_label p seen)))

  -- an item that came by the base is left out
  pub laid_same : (version : ℕ) → version ≡ came item.label → version ≤ base → AreLaid base (seen ++ entry_of item ∷ []) old
  laid_same version is le = λ v lt. laid v lt ∙ misses (came_within v v) (apart v (came item.label) (λ same. omega (arith, is, le, lt, same)))

  -- and one that came later lies under its version
  pub laid_more : (new : BTreeMap ℕ (List Item)) (version : ℕ) → version ≡ came item.label → laid_at new version ≡ laid_at old version ++ item ∷ []
      → ((v : ℕ) → v ≢ version → laid_at new v ≡ laid_at old v) → AreLaid base (seen ++ entry_of item ∷ []) new
  laid_more new version is here others = λ v lt.
      let p = came_within v v in
      elim (cases_eq v version) [
        | inl same ↦
            ap (λ xs. where_label p (map entry_of xs)) (subst (λ n. laid_at new n ≡ laid_at old n ++ item ∷ []) (sym same) here)
            ∙ ap (where_label p) (map-append entry_of (laid_at old v) (item ∷ [])) ∙ where-append p (map entry_of (laid_at old v)) (entry_of item ∷ [])
            ∙ ap (λ es. es ++ where_label p (entry_of item ∷ [])) (laid v lt) ∙ sym (where-append p seen (entry_of item ∷ []))
        | inr other ↦ ap (λ xs. where_label p (map entry_of xs)) (others v other) ∙ laid v lt ∙ misses p (apart v (came item.label) (λ same. other (same ∙ sym is)))
      ]

pub laid_none : (base : ℕ) (laid : BTreeMap ℕ (List Item)) → laid.entries ≡ [] → AreLaid base [] laid
laid_none base laid none = λ v lt. let nothing : laid_at laid v ≡ [] = rw none refl in ap (λ xs. where_label (came_within v v) (map entry_of xs)) nothing

-- ---- rows that are made piece by piece

split_map : {X Y : Type 0} (f : X → Y) (xs : List X) (first rest : List Y) → first ++ rest ≡ map f xs
    → (front : List X) × (back : List X) × (xs ≡ front ++ back) × (first ≡ map f front) × (rest ≡ map f back)
split_map f xs [] rest is = ([], xs, refl, refl, is)
split_map f [] (y ∷ first) rest is = absurd cc
split_map f (x ∷ xs) (y ∷ first) rest is =
    let head : y ≡ f x = cc in
    let tail : first ++ rest ≡ map f xs = cc in
    let parts = split_map f xs first rest tail in
    (x ∷ parts.0, parts.1, ap (λ zs. x ∷ zs) parts.2, (λ i. head i ∷ parts.3 i), parts.4)

both_parts : {X : Type 0} (P : X → Type 0) (front back : List X) → AllByRecursion P (front ++ back) → AllByRecursion P front × AllByRecursion P back
both_parts P [] back all = (tt, all)
both_parts P (x ∷ front) back all = let rest = both_parts P front back all.1 in ((all.0, rest.0), rest.1)

pub made_none : (base : ℕ) → AreMade base [] []
made_none base [] fits is = refl
made_none base (s ∷ spans) fits is = absurd cc

pub made_more : (base : ℕ) (seen piece : List Entry) (old found : List RowChange) → AreMade base seen old → AreMade base piece found → AreMade base (seen ++ piece) (old ++ found)
made_more base seen piece old found made more = λ spans fits is.
    let p = came_within 0 base in
    let parts = split_map span_entry spans (where_label p seen) (where_label p piece) (sym (where-append p seen piece) ∙ is) in
    let fit = both_parts FitsSpan parts.0 parts.1 (subst (AllByRecursion FitsSpan) parts.2 fits) in
    (λ i. made parts.0 fit.0 parts.3 i ++ more parts.1 fit.1 parts.4 i) ∙ sym (map-append (λ (s : Span). s.change) parts.0 parts.1) ∙ ap (map (λ (s : Span). s.change)) (sym parts.2)

-- ---- spans that are read back

pub fit_spans : (n : ℕ) (spans : List Span) → n < 2 ^ 64 → AllByRecursion (λ s. s.first ≤ n) spans → AllByRecursion IsReadBack (map (λ s. s.change) spans) → AllByRecursion FitsSpan spans
fit_spans n [] small firsts back = tt
fit_spans n (s ∷ spans) small firsts back = let le = firsts.0 in (record { first = omega (arith, le, small); back = back.0 }, fit_spans n spans small firsts.1 back.1)

pub fit_own : (n : ℕ) (rows : List RowChange) → n < 2 ^ 64 → AllByRecursion IsReadBack rows → AllByRecursion FitsSpan (spans_from n rows)
fit_own n [] small back = tt
fit_own n (row ∷ rows) small back = (record { first = small; back = back.0 }, fit_own n rows small back.1)

-- the rows of the base, by its spans
pub base_in_spans : (m : Items) (base : BaseVersion) (number : ℕ) (made : List RowChange) → number < 2 ^ 64 → number ≡ base.number → AllByRecursion IsReadBack base.rows → TellBase Spans m base
    → AreMade number (listed spans_area [] labels_end m) made → made ≡ base.rows
base_in_spans m base number made small numbers back told are =
    are told.0 (fit_spans base.number told.0 (omega (arith, small, numbers)) told.2.firsts (subst (AllByRecursion IsReadBack) (sym told.2.rows) back))
    (ap (λ n. where_label (came_within 0 n) (listed spans_area [] labels_end m)) numbers ∙ told.1)
    ∙ told.2.rows

-- what lies under the version of a change behind the base tells its rows
pub laid_later : (m : Items) (base : ℕ) (laid : BTreeMap ℕ (List Item)) → AreLaid base (listed spans_area [] labels_end m) laid → (change : Change) → base < change.version → TellChange Spans m change → TellLater (Laid laid) m change
laid_later m base laid are change lt told = are change.version lt ∙ told

-- and those of a change
pub change_in_spans : (laid : BTreeMap ℕ (List Item)) (seen : List Item) (m : Items) (change : Change) (version : ℕ) → version < 2 ^ 64 → version ≡ change.version → seen ≡ laid_at laid version → AllByRecursion IsReadBack change.rows
    → TellLater (Laid laid) m change
    → AllByRecursion FitsSpan (spans_from version change.rows) × (where_label (came_within version version) (map entry_of seen) ≡ map span_entry (spans_from version change.rows))
    × (map (λ s. s.change) (spans_from version change.rows) ≡ change.rows)
change_in_spans laid seen m change version small versions same back told = (
  fit_own version change.rows small back,
  ap (λ xs. where_label (came_within version version) (map entry_of xs)) same
      ∙ ap (λ v. where_label (came_within v v) (map entry_of (laid_at laid v))) versions ∙ told ∙ ap (λ v. map span_entry (spans_from v change.rows)) (sym versions),
  rows_are version change.rows,
)

-- ---- the rows of the changes, once the base's are read

-- each change has a version behind the base
tell_later : (laid : StoredRows) (later : ChangeRows) (m : Items) (base n : ℕ) → base ≤ n → ((change : Change) → base < change.version → TellChange laid m change → TellLater later m change)
    → (changes : List Change) → LeadOn n changes → AllByRecursion (TellChange laid m) changes → AllByRecursion (TellLater later m) changes
tell_later laid later m base n le keeps [] lead told = tt
tell_later laid later m base n le keeps (change ∷ changes) lead told =
    let next = lead.0 in
    (keeps change (omega (arith, next, le)) told.0, tell_later laid later m base change.version (omega (arith, next, le)) keeps changes lead.1 told.1)

pub changes_later : (old new : Items → Type 0) (laid : StoredRows) (later : ChangeRows) (t : HubTables) (base : ℕ) → base ≡ t.base.number → Stay old new → (has : HasChanges old (TellChange laid) t)
    → ((change : Change) → base < change.version → TellChange laid has.tables.items change → TellLater later has.tables.items change) → HasChanges new (TellLater later) t
changes_later old new laid later t base bases stay has keeps = record {
  tables = tables_stay old new t stay has.tables;
  rows = tell_later laid later has.tables.items base t.base.number (omega (arith, bases)) keeps t.changes has.tables.are.lead has.rows;
}
