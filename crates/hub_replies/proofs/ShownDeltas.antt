-- What the hub shows of what differs between two versions.
use Rattle.std.proofs.Common.{◌≡◌, ◌≤◌, ℕ, ◌+◌, List, [], ◌∷◌, true, filter, length, arith, drop, length-take}
use Rattle.std.specs.Prelude.{All}
use Rattle.std.specs.List.{AllByRecursion, list_all}
use Rattle.std.proofs.lemmas.List.Elements.{All-drop, All-filter, All-from_recursion, All-take, All-weaker}
use Rattle.std.proofs.lemmas.List.Elements.{recursion_from_All}
use Rattle.std.proofs.lemmas.List.Sums.{length-filter}
use Rattle.filter_grammar.specs.declared.query.Query.{Query}
use Rattle.rest_paths.specs.Paths.{PathParts}
use Rattle.hub_replies.proofs.RowTexts.{delta-short, id-short}
use Rattle.hub_replies.proofs.ShownRows.{IsShown, counted, rows_are}
use Rattle.hub_replies.proofs.TargetTexts.{IsModest, few-links, good-links}
use Rattle.hub_spec.specs.rules.Reads.{delta_shown}
use Rattle.hub_spec.specs.rules.States.{HoldsRows}
use Rattle.hub_spec.specs.views.Deltas.{kind_delta, page_of_delta}
use Rattle.hub_spec.specs.views.Pages.{slice}
use Rattle.hub_spec.specs.views.Seen.{seen, sees_row}
use Rattle.grant_scopes.specs.declared.schools.Schools.{Schools}
use Rattle.http_wire.specs.Texts.{last_number}
use Rattle.roster_texts.specs.Texts.{is_id}
use Rattle.roster_types.specs.Keys.{is_of_kind}
use Rattle.roster_types.specs.Lengths.{text_length}
use Rattle.roster_types.specs.Records.{Record}
use Rattle.roster_types.specs.Rows.{IsRow, longest}
use Rattle.roster_values.specs.declared.kind.Kind.{Kind}
use Rattle.row_deltas.proofs.EntryLemmas.{all_entries, length-delta}
use Rattle.row_deltas.specs.Deltas.{ids_gone, rows_put}
use Rattle.row_deltas.specs.declared.entry.DeltaEntry.{DeltaEntry}
use Rattle.row_deltas.specs.declared.entry.DeltaEntry.TheVariants.{Put, Gone}
use Rattle.version_core.specs.Changes.{rows_of}
use Rattle.version_core.specs.Version.{IsVersion}
use Rattle.version_core.specs.declared.change.BaseVersion.{BaseVersion}
use Rattle.filter_grammar.specs.Queries.{greatest_limit}

-- the row or the id of an entry is no longer than a row may be
abbrev IsShort : DeltaEntry → Type 0
IsShort (Put row) = IsRow row
IsShort (Gone id) = text_length id ≤ longest

short_rows : (entries : List DeltaEntry) → AllByRecursion IsShort entries → AllByRecursion IsRow (rows_put entries)
short_rows [] all = tt
short_rows (Put row ∷ entries) all = (all.0, short_rows entries all.1)
short_rows (Gone id ∷ entries) all = short_rows entries all.1

short_ids : (entries : List DeltaEntry) → AllByRecursion IsShort entries → AllByRecursion (λ id. text_length id ≤ longest) (ids_gone entries)
short_ids [] all = tt
short_ids (Put row ∷ entries) all = short_ids entries all.1
short_ids (Gone id ∷ entries) all = (all.0, short_ids entries all.1)

parted : (entries : List DeltaEntry) → length (rows_put entries) + length (ids_gone entries) ≤ length entries
parted [] = omega arith
parted (Put row ∷ entries) = omega (arith, parted entries)
parted (Gone id ∷ entries) = omega (arith, parted entries)

module _ (schools : Schools) (kind : Kind) where
  abbrev seen_in : BaseVersion → List Record
  seen_in v = seen schools (rows_of v.rows)

  rows_in : (v : BaseVersion) → HoldsRows v → All IsRow (filter (is_of_kind kind) (seen_in v))
  rows_in v holds = All-filter (is_of_kind kind) IsRow (seen_in v) (All-filter (sees_row schools (rows_of v.rows)) IsRow (rows_of v.rows) (rows_are v holds))

  few_in : (v : BaseVersion) → IsVersion v → length (filter (is_of_kind kind) (seen_in v)) ≤ 1_000_000
  few_in v is =
      let le = counted (is_of_kind kind) (is_of_kind kind) (sees_row schools (rows_of v.rows)) (λ row e. e) (rows_of v.rows) in
      let most = is.few kind in
      omega (arith, le, most, length-filter (is_of_kind kind) (rows_of v.rows))

  module _ (old new : BaseVersion) (was : IsVersion old) (is : IsVersion new) (held : HoldsRows old) (holds : HoldsRows new) where
    abbrev entries : List DeltaEntry
    entries = kind_delta kind (seen_in old) (seen_in new)

    few : length entries ≤ 2_000_000
    few = omega (arith, length-delta kind (filter (is_of_kind kind) (seen_in old)) (filter (is_of_kind kind) (seen_in new)), few_in old was, few_in new is)

    short : AllByRecursion IsShort entries
    short =
        let gone = All-weaker IsRow (λ (row : Record). text_length row.id ≤ longest) id-short (filter (is_of_kind kind) (seen_in old)) (rows_in old held) in
        all_entries kind IsShort (filter (is_of_kind kind) (seen_in old)) (filter (is_of_kind kind) (seen_in new))
        (recursion_from_All (λ (row : Record). text_length row.id ≤ longest) (filter (is_of_kind kind) (seen_in old)) gone)
        (recursion_from_All IsRow (filter (is_of_kind kind) (seen_in new)) (rows_in new holds))

    pub delta_is : (path : PathParts) (query : Query) (version : ℕ) → list_all is_id path.ids ≡ true → IsModest query → version ≤ last_number → IsShown (delta_shown kind (page_of_delta path query version entries))
    delta_is path query version ids modest low =
        let page = slice query.limit query.offset entries in
        let all = recursion_from_All IsShort page (All-take IsShort query.limit (drop query.offset entries) (All-drop IsShort query.offset entries (All-from_recursion IsShort entries short))) in
        let size : length page ≤ greatest_limit = omega (arith, length-take query.limit (drop query.offset entries), modest.limit) in
        let body = delta-short kind (rows_put page) (ids_gone page) (All-from_recursion IsRow (rows_put page) (short_rows page all))
        (All-from_recursion (λ id. text_length id ≤ longest) (ids_gone page) (short_ids page all)) (omega (arith, size, parted page)) in
        record {
          body = omega (arith, body);
          total = omega (arith, few);
          links = good-links path query version (length entries) ids modest low (omega (arith, few));
          few = few-links path query version (length entries) ids modest low (omega (arith, few));
        }
