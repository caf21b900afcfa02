use Rattle.std.proofs.Common.{◌≡◌, List, true, false, inl, inr, sym, ap, subst, ◌∙◌}
use Rattle.std.specs.List.{flat_map, list_all, list_any}
use Rattle.reference_rules.specs.Faults.{AreAmong, faults_of, is_cycle, row_faults}
use Rattle.version_changes.proofs.SoundLemmas.{all_change, among, told_by_changes}
use Rattle.version_changes.specs.sets.Steps.{keeps_type}
use Rattle.version_core.specs.Changes.{change_key, rows_of}
use Rattle.version_core.specs.Order.{overlaid}
use Rattle.version_core.specs.declared.row_change.RowChange.{RowChange}
use Rattle.version_changes.proofs.sets.soundness.draft_faults.Goals as goal

pub faults_among-requires : goal.faults_among-requires
faults_among-requires c =
    let rows = c.args.draft.now.view.now.rows in
    let changes = c.args.draft.now.changes.now in
    subst (λ (listed : List RowChange). AreAmong (rows_of (overlaid change_key rows changes)) (rows_of listed)) (sym c.as_slice-2.ensures.changes) (among rows changes c.as_slice-2.ensures.sorted)

pub returns : goal.returns
returns c =
    let rows = c.args.draft.now.view.now.rows in
    let changes = c.args.draft.now.changes.now in
    let new = rows_of (overlaid change_key rows changes) in
    let found = c.in_ok-found.ensures ∙ ap (λ (listed : List RowChange). flat_map (row_faults new) (rows_of listed)) c.as_slice-2.ensures.changes in
    found ∙ sym (elim (c.are_all.ensures c.if-not-are_all.false) as (λ _. faults_of new ≡ flat_map (row_faults new) (rows_of changes)) [
      | inl none ↦ all_change rows changes none c.as_slice-2.ensures.sorted
      | inr acyclic ↦
          let keep : list_all (keeps_type rows) changes ≡ true = ap (list_all (keeps_type rows)) (sym c.as_slice.ensures.changes) ∙ sym c.keep_types.ensures ∙ c.if-not-keep_types.false in
          let none : list_any is_cycle (flat_map (row_faults new) (rows_of changes)) ≡ false = ap (list_any is_cycle) (sym (c.as_slice-3.ensures.value ∙ found)) ∙ acyclic in
          told_by_changes rows changes c.as_slice-2.ensures.sorted c.count.ensures.order keep (c.requires c.if-not-is_sound.false) none
    ])
