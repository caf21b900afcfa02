-- The items after a commit keep the state after it.
use Rattle.std.proofs.Common.{◌≡◌, ◌+◌, ◌≤◌, ◌<◌, ◌^◌, ℕ, List, [], ◌∷◌, ◌++◌, true, false, length, length-append}
use Rattle.std.proofs.Common.{Option, None, Some, inl, inr, refl, sym, ap, ◌∙◌, subst, arith}
use Rattle.std.specs.Prelude.{nat_lt}
use Rattle.std.specs.List.{AllByRecursion}
use Rattle.std.specs.Option.{ForSome}
use Rattle.std.proofs.lemmas.Bool.{cases_lt}
use Rattle.std.proofs.lemmas.Bool.Decides.{nat_tests}
use Rattle.item_maps.specs.Edits.{after as after_edits}
use Rattle.item_maps.specs.Items.{Items, no_items}
use Rattle.item_maps.specs.declared.item.Edit.{Edit}
use Rattle.version_core.specs.Changes.{AreChanges, change_key}
use Rattle.version_core.specs.HubStates.{AreVersionsFrom}
use Rattle.version_core.specs.Marks.{CanMark, with_mark}
use Rattle.version_core.specs.Table.{LeadOn}
use Rattle.version_core.specs.Version.{Versions, after, empty_version, last_or, versions_from}
use Rattle.version_core.specs.declared.change.BaseVersion.{BaseVersion}
use Rattle.version_core.specs.declared.change.Change.{Change}
use Rattle.version_core.specs.declared.hub_tables.HubTables.{HubTables}
use Rattle.version_core.specs.declared.mark.MarkRow.{MarkRow}
use Rattle.version_core.proofs.MarkLemmas.{no_marks}
use Rattle.version_core.proofs.TableLemmas.{AreVersionsFrom-push}
use Rattle.version_core.proofs.VersionLemmas.{AllByRecursion-push, length-versions_from, newest_number}
use Rattle.version_core.proofs.VersionLemmas.{oldest-versions_from, versions_from-push}
use Rattle.keeper_memory.proofs.CommitLemmas.{IsKept-with_commit}
use Rattle.keeper_memory.proofs.KeptLemmas.{few_changes, kept_in_tables, no_versions, tables_are_kept}
use Rattle.keeper_memory.proofs.KeptLemmas as kept_lemmas
use Rattle.keeper_memory.specs.Commits.{CanCommit, CanLead, marks_after, versions_after, with_commit}
use Rattle.keeper_memory.specs.Kept.{IsKept, KeptState, kept_by, newest_kept}
use Rattle.keeper_memory.specs.declared.hub_commit.HubCommit.{HubCommit}
use Rattle.hub_format.specs.Edits.{mark_edits}
use Rattle.hub_format.specs.Format.{Fit, FitsChange, FitsMark, new_tables}
use Rattle.hub_format.proofs.Acts.{after-append}
use Rattle.hub_format.proofs.Encodes.{ahead, first_run, fit_laid, fit_taken, rise_of, split}
use Rattle.hub_format.proofs.Marking.{fit_marked}
use Rattle.span_format.specs.Edits.{added, change_edits, edits, first_edits, folded, let_go, spans_after}
use Rattle.span_format.specs.Format.{AreSpans, FitSpans, FitsSpanCommit, HasPlainId, HasPlainIds, KeepSpans, Span}
use Rattle.span_format.specs.Format.{items_in}
use Rattle.span_format.proofs.Adding.{added_is}
use Rattle.span_format.proofs.Areas.{by_areas}
use Rattle.span_format.proofs.Folding.{folded_is, spans_of_next}
use Rattle.span_format.proofs.Marking.{marked_is}
use Rattle.span_format.proofs.Putting.{all_overlaid}

goes_none : (keep : ℕ) (base : BaseVersion) (all : List Change) → length all ≤ keep → let_go keep base all ≡ []
goes_none keep base [] few = refl
goes_none keep base (oldest ∷ rest) few = let no : nat_lt keep (length (oldest ∷ rest)) ≡ false = grind (arith, nat_tests) in rw no refl

goes_one : (keep : ℕ) (base : BaseVersion) (oldest : Change) (rest : List Change) → length rest ≡ keep → let_go keep base (oldest ∷ rest) ≡ folded keep base oldest
goes_one keep base oldest rest full = let yes : nat_lt keep (length (oldest ∷ rest)) ≡ true = grind (arith, nat_tests) in rw yes refl

-- edits that lead from the items of tables to those of others, which have this state
record Leads (base : List Span) (t : HubTables) (goes : List Edit) (state : KeptState) : Type 0 where
  tables : HubTables
  spans : List Span
  stored : after_edits goes (items_in base t) ≡ items_in spans tables
  of_base : AreSpans spans tables.base
  same : kept_by tables ≡ state
  changes : AllByRecursion (λ change. AreChanges change.rows) tables.changes
  fit : Fit tables
  plain : FitSpans tables

module _ (base : List Span) (t : HubTables) (is : IsKept (kept_by t)) (lead : LeadOn t.base.number t.changes) (each : AllByRecursion (λ change. AreChanges change.rows) t.changes) (fit : Fit t)
    (of_base : AreSpans base t.base) (plain : FitSpans t) (change : Change) (can : CanLead (versions_from t.base t.changes) change) (fits : FitsChange change) (news : HasPlainIds change) where
  abbrev more : List Change
  more = t.changes ++ change ∷ []

  abbrev next : BaseVersion
  next = after (last_or empty_version (versions_from t.base t.changes)) change

  abbrev with_versions : Versions → KeptState
  with_versions v = record { keep = t.keep; versions = v.versions; marks = t.marks }

  run : AreVersionsFrom t.base.number (versions_from t.base t.changes)
  run = subst (λ (version : BaseVersion). AreVersionsFrom version.number (versions_from t.base t.changes)) (oldest-versions_from empty_version t.base t.changes) is.versions.kept.run

  run_more : AreVersionsFrom t.base.number (versions_from t.base more)
  run_more =
      let newest = newest_number empty_version t.base t.changes lead in
      let long = length-versions_from t.base t.changes in
      let number = can.follows.number in
      subst (AreVersionsFrom t.base.number) (sym (versions_from-push empty_version t.base t.changes change))
      (AreVersionsFrom-push t.base.number (versions_from t.base t.changes) next run (omega (arith, newest, long, number)) can.follows.version)

  each_more : AllByRecursion (λ change. AreChanges change.rows) more
  each_more = AllByRecursion-push (λ change. AreChanges change.rows) t.changes change each can.changes

  fits_more : AllByRecursion FitsChange more
  fits_more = AllByRecursion-push FitsChange t.changes change fit.changes fits

  plain_more : AllByRecursion HasPlainIds more
  plain_more = AllByRecursion-push HasPlainIds t.changes change plain.changes news

  added_here : after_edits (added change) (items_in base t) ≡ items_in base (record t { changes = more })
  added_here = added_is change base t can.changes (rise_of change.grants (last_or empty_version (versions_from t.base t.changes)).grants can.follows.version.grants.rise)

  stored_by : (goes : List Edit) → let_go t.keep t.base more ≡ goes → after_edits (change_edits t (Some change)) (items_in base t) ≡ after_edits goes (items_in base (record t { changes = more }))
  stored_by goes is = after-append (added change) (let_go t.keep t.base more) (items_in base t) ∙ ap (after_edits (let_go t.keep t.base more)) added_here ∙ ap (λ es. after_edits es (items_in base (record t { changes = more }))) is

  -- not all that may be kept stand beside the newest
  leads_more : length t.changes + 1 ≤ t.keep → Leads base t (change_edits t (Some change)) (record { keep = t.keep; versions = versions_after t.keep (versions_from t.base t.changes) (Some change); marks = t.marks })
  leads_more few =
      let long = length-append t.changes (change ∷ []) in
      record {
        tables = record t { changes = more };
        spans = base;
        of_base = of_base;
        stored = stored_by [] (goes_none t.keep t.base more (omega (arith, long, few)));
        same = sym (ap with_versions (kept_lemmas.with_change t.keep t.base t.changes change few));
        changes = each_more;
        fit = record { keep = fit.keep; moment = fit.moment; rows = fit.rows; grants = fit.grants; changes = fits_more; marks = fit.marks };
        plain = record { base = plain.base; changes = plain_more };
      }

  -- all do, so the oldest change goes into the base
  leads_rest : (oldest : Change) (rest : List Change) → length t.changes ≡ t.keep → more ≡ oldest ∷ rest → length rest ≡ length t.changes
      → Leads base t (change_edits t (Some change)) (record { keep = t.keep; versions = versions_after t.keep (versions_from t.base t.changes) (Some change); marks = t.marks })
  leads_rest oldest rest full parts long =
      let run_split = subst (λ changes. AreVersionsFrom t.base.number (versions_from t.base changes)) parts run_more in
      let each_split = subst (AllByRecursion (λ change. AreChanges change.rows)) parts each_more in
      let fits_split = subst (AllByRecursion FitsChange) parts fits_more in
      let plain_split = subst (AllByRecursion HasPlainIds) parts plain_more in
      let number = (first_run (t.base.number + 1) (after t.base oldest) rest run_split.2).0 in
      record {
        tables = record t { base = after t.base oldest; changes = rest };
        spans = spans_after base oldest;
        of_base = spans_of_next base t.base oldest (omega (arith, number)) of_base;
        stored = stored_by (folded t.keep t.base oldest) (ap (let_go t.keep t.base) parts ∙ goes_one t.keep t.base oldest rest (long ∙ full))
            ∙ ap (λ changes. after_edits (folded t.keep t.base oldest) (items_in base (record t { changes = changes }))) parts
            ∙ folded_is t.keep base t.base oldest rest t.marks each_split.0 (first_run t.base.number t.base t.changes run).1.grants.rise
            (ahead t.base.number t.base.number t.base (oldest ∷ rest) (omega arith) run_split)
            (ahead oldest.version (t.base.number + 1) (after t.base oldest) rest (omega (arith, number)) run_split.2)
            of_base (first_run t.base.number t.base t.changes run).1.rows plain.base plain_split.0 plain_split.1;
        same = sym (ap with_versions (kept_lemmas.folded t.keep t.base t.changes change oldest rest full parts));
        changes = each_split.1;
        fit = record {
          keep = fit.keep;
          moment = fits_split.0.moment;
          rows = fit_laid t.base.rows oldest.rows fit.rows fits_split.0.rows;
          grants = fit_taken oldest.grants t.base.grants fits_split.0.grants fit.grants;
          changes = fits_split.1;
          marks = fit.marks;
        };
        plain = record { base = all_overlaid change_key HasPlainId t.base.rows oldest.rows plain.base plain_split.0; changes = plain_split.1 };
      }

  leads_on : Leads base t (change_edits t (Some change)) (record { keep = t.keep; versions = versions_after t.keep (versions_from t.base t.changes) (Some change); marks = t.marks })
  leads_on = elim (cases_lt (length t.changes) t.keep) [
    | inl lt ↦ leads_more (omega arith)
    | inr ge ↦
        let le = few_changes t.keep t.base t.changes change is.versions in
        let parts = split t.changes change in
        leads_rest parts.0 parts.1 (omega arith) parts.2 parts.3
  ]

with_some_change : (base : List Span) (t : HubTables) (change : Option Change) → IsKept (kept_by t) → LeadOn t.base.number t.changes → AllByRecursion (λ change. AreChanges change.rows) t.changes → Fit t → AreSpans base t.base → FitSpans t
    → ForSome change (CanLead (versions_from t.base t.changes)) → ForSome change FitsChange → ForSome change HasPlainIds → Leads base t (change_edits t change) (record { keep = t.keep; versions = versions_after t.keep (versions_from t.base t.changes) change; marks = t.marks })
with_some_change base t None is lead each fit of_base plain can fits news = record { tables = t; spans = base; stored = refl; of_base = of_base; same = refl; changes = each; fit = fit; plain = plain }
with_some_change base t (Some change) is lead each fit of_base plain can fits news = leads_on base t is lead each fit of_base plain change (can change refl) (fits change refl) (news change refl)

with_some_mark : (base : List Span) (t : HubTables) (mark : Option MarkRow) (newest : ℕ) → AllByRecursion (λ change. AreChanges change.rows) t.changes → Fit t → AreSpans base t.base → FitSpans t → ForSome mark (CanMark newest t.marks) → ForSome mark FitsMark
    → Leads base t (mark_edits mark) (record { keep = t.keep; versions = versions_from t.base t.changes; marks = marks_after t.marks mark })
with_some_mark base t None newest each fit of_base plain can fits = record { tables = t; spans = base; stored = refl; of_base = of_base; same = refl; changes = each; fit = fit; plain = plain }
with_some_mark base t (Some mark) newest each fit of_base plain can fits = record {
  tables = record t { marks = with_mark mark t.marks };
  spans = base;
  stored = marked_is mark (fits mark refl) base t fit.marks (can mark refl).free;
  of_base = of_base;
  same = refl;
  changes = each;
  fit = record { keep = fit.keep; moment = fit.moment; rows = fit.rows; grants = fit.grants; changes = fit.changes; marks = fit_marked mark (fits mark refl) t.marks fit.marks };
  plain = record { base = plain.base; changes = plain.changes };
}

module _ (base : List Span) (t : HubTables) (commit : HubCommit) (is : IsKept (kept_by t)) (lead : LeadOn t.base.number t.changes) (each : AllByRecursion (λ change. AreChanges change.rows) t.changes) (fit : Fit t)
    (of_base : AreSpans base t.base) (plain : FitSpans t) (can : CanCommit (kept_by t) commit) (fits : FitsSpanCommit commit) where
  changed : Leads base t (change_edits t commit.change) (record { keep = t.keep; versions = versions_after t.keep (versions_from t.base t.changes) commit.change; marks = t.marks })
  changed = with_some_change base t commit.change is lead each fit of_base plain can.change fits.fits.change fits.plain

  marked : (spans : List Span) (next : HubTables) → kept_by next ≡ record { keep = t.keep; versions = versions_after t.keep (versions_from t.base t.changes) commit.change; marks = t.marks }
      → AllByRecursion (λ change. AreChanges change.rows) next.changes → Fit next → AreSpans spans next.base → FitSpans next → Leads spans next (mark_edits commit.mark) (with_commit (kept_by t) commit)
  marked spans next same changes fit_next of_next plain_next =
      let marks : next.marks ≡ t.marks = ap (λ (s : KeptState). s.marks) same in
      let newest = (newest_kept (with_commit (kept_by t) commit).versions).number in
      let can_mark = subst (λ marks. ForSome commit.mark (CanMark newest marks)) (sym marks) can.mark in
      let leads = with_some_mark spans next commit.mark newest changes fit_next of_next plain_next can_mark fits.fits.mark in
      record { tables = leads.tables; spans = leads.spans; stored = leads.stored; of_base = leads.of_base; same = leads.same ∙ ap (λ (s : KeptState). record s { marks = marks_after s.marks commit.mark }) same; changes = leads.changes; fit = leads.fit; plain = leads.plain }

  leads_commit : Leads base t (edits t commit) (with_commit (kept_by t) commit)
  leads_commit =
      let first = changed in
      let last = marked first.spans first.tables first.same first.changes first.fit first.of_base first.plain in
      record {
        tables = last.tables;
        spans = last.spans;
        of_base = last.of_base;
        stored = after-append (change_edits t commit.change) (mark_edits commit.mark) (items_in base t) ∙ ap (after_edits (mark_edits commit.mark)) first.stored ∙ last.stored;
        same = last.same;
        changes = last.changes;
        fit = last.fit;
        plain = last.plain;
      }

  pub Keep-tables : KeepSpans (after_edits (edits t commit) (items_in base t)) (with_commit (kept_by t) commit)
  Keep-tables =
      let leads = leads_commit in
      let is_next = subst IsKept (sym leads.same) (IsKept-with_commit (kept_by t) commit can is) in
      record { tables = leads.tables; base = leads.spans; stored = leads.stored; spans = leads.of_base; same = sym leads.same; are = kept_in_tables leads.tables is_next leads.changes; fit = leads.fit; plain = leads.plain }

pub Keep-commit : (items : Items) (state : KeptState) (commit : HubCommit) (keep : KeepSpans items state) → CanCommit state commit → FitsSpanCommit commit
    → KeepSpans (after_edits (edits keep.tables commit) items) (with_commit state commit)
Keep-commit items state commit keep can fits =
    let t = keep.tables in
    let can_here = subst (λ (s : KeptState). CanCommit s commit) keep.same can in
    let there = Keep-tables keep.base t commit (tables_are_kept t keep.are) keep.are.lead keep.are.changes keep.fit keep.spans keep.plain can_here fits in
    let P : Items → KeptState → Type 0 = λ m s. KeepSpans (after_edits (edits t commit) m) (with_commit s commit) in
    subst (λ (s : KeptState). P items s) (sym keep.same) (subst (λ (m : Items). P m (kept_by t)) (sym keep.stored) there)

-- a new store
pub first_kept : (keep : ℕ) → keep < 2 ^ 64 → KeepSpans (after_edits (first_edits keep) no_items) (kept_by (new_tables keep))
first_kept keep fits = record {
  tables = new_tables keep;
  base = [];
  spans = record { rows = refl; firsts = tt };
  stored = λ i area. at area i;
  same = refl;
  are = kept_in_tables (new_tables keep) (record { versions = no_versions keep; marks = no_marks 0 }) tt;
  fit = record { keep = fits; moment = record { sfits = omega arith }; rows = tt; grants = tt; changes = tt; marks = tt };
  plain = record { base = tt; changes = tt };
}
  where
    at : (area : ℕ) → after_edits (first_edits keep) no_items area ≡ items_in [] (new_tables keep) area
    at = by_areas (λ area. after_edits (first_edits keep) no_items area ≡ items_in [] (new_tables keep) area) refl refl refl refl refl refl refl refl refl
        (λ a n0 n1 n2 n3 n4 n5 n6 n7 n8. rw (n0, n1, n3, n5, n6, n7, n8) refl)
