use Rattle.std.proofs.Common.{◌≡◌, ◌++◌, ℤ, List, filter, take, get_or, length, refl, sym, ap, subst, ◌∙◌, arith}
use Rattle.std.specs.List.{flat_map}
use Rattle.std.specs.Option.{option_to_list}
use Rattle.reference_rules.proofs.Rest.{by_kinds}
use Rattle.roster_types.specs.Keys.{is_of_kind, look_up, row_key}
use Rattle.roster_types.specs.Records.{Record}
use Rattle.roster_types.specs.Sets.{SetRecord}
use Rattle.roster_types.specs.declared.set_row.SetRow.{SetRow}
use Rattle.roster_values.specs.Kinds.{all_kinds}
use Rattle.roster_values.specs.declared.kind.Kind.{Kind}
use Rattle.roster_values.specs.declared.kind.Kind.TheVariants.{Orgs}
use Rattle.version_changes.proofs.Collecting.{look_up-marks, marks_ascend}
use Rattle.version_changes.proofs.LookUps.{flat_map_more}
use Rattle.version_changes.specs.sets.Steps.{mark_at, marks_of}
use Rattle.version_core.proofs.RowsOf.{is_sorted-rows_of}
use Rattle.version_core.specs.Changes.{AreChanges, change_key, rows_of}
use Rattle.version_core.specs.declared.row_change.RowChange.{RowChange}
use Rattle.version_changes.proofs.sets.marks.marks_of.Goals as goal

module _ (set : SetRecord) (at : ℤ) (index : List SetRow) (rows : List RowChange) where
  abbrev of_kind : Kind → List RowChange
  of_kind kind = marks_of set at index rows (filter (is_of_kind kind) (rows_of rows))

  all_marks : (marks : List RowChange) (n : _) → AreChanges rows → marks ≡ flat_map of_kind (take n all_kinds) → n ≡ length all_kinds → marks ≡ marks_of set at index rows (rows_of rows)
  all_marks marks n up is all =
      is ∙ ap (λ m. flat_map of_kind (take m all_kinds)) all
      ∙ by_kinds (λ (row : Record). option_to_list (mark_at set at index rows (row_key row))) (rows_of rows) (is_sorted-rows_of rows ∙ up)

pub loop-kind-preserved : goal.loop-kind-preserved
loop-kind-preserved c =
    let marks = of_kind c.args.set.now c.args.at c.args.listed.now c.args.view.now.rows in
    let kind = get_or all_kinds c.loop-kind.kind-index Orgs in
    c.in_ok-add_marks.ensures ∙ ap (λ ys. ys ++ marks kind) c.loop-kind.invariant ∙ sym (flat_map_more marks all_kinds c.loop-kind.kind-index kind Orgs c.loop-kind-test.true refl)

pub returns-clause-order : goal.returns-clause-order
returns-clause-order c =
    let rows = c.args.view.now.rows in
    let all = all_marks c.args.set.now c.args.at c.args.listed.now rows c.loop-kind.marks.items c.loop-kind.kind-index c.next_change.ensures.sorted c.loop-kind.invariant (omega arith) in
    subst AreChanges (sym all) (marks_ascend c.args.set.now c.args.at c.args.listed.now rows c.next_change.ensures.sorted)

pub returns-clause-marks : goal.returns-clause-marks
returns-clause-marks c = λ k.
    let rows = c.args.view.now.rows in
    let all = all_marks c.args.set.now c.args.at c.args.listed.now rows c.loop-kind.marks.items c.loop-kind.kind-index c.next_change.ensures.sorted c.loop-kind.invariant (omega arith) in
    ap (look_up change_key k) all ∙ look_up-marks c.args.set.now c.args.at c.args.listed.now rows k
