use Rattle.std.proofs.Common.{◌++◌, ◌&&◌, append_assoc, append-nil, length, Some, sym, ap, subst, ◌∙◌, arith}
use Rattle.std.proofs.Common.{option_copied}
use Rattle.std.specs.List.{flat_map}
use Rattle.roster_types.specs.Keys.{count_of, is_after, is_of_kind}
use Rattle.roster_types.specs.Records.{Record}
use Rattle.reference_rules.proofs.CycleLemmas.{no_notes}
use Rattle.roster_values.proofs.KindLaws.{kind_from_place}
use Rattle.reference_rules.proofs.Rest.{look_up-found, next_kind, rest_at, rest_none, rest_of, rest_start}
use Rattle.reference_rules.specs.Faults.{row_faults}
use Rattle.reference_rules.specs.Notes.{AreNotes}
use Rattle.reference_rules.proofs.add_kind_faults.Goals as goal

pub loop-row-init : goal.loop-row-init
loop-row-init g c =
    let rows = g.R.Rows.rows c.args.rows.now in
    record {
      found = ap (λ rest. c.args.found.now.items ++ flat_map (row_faults rows) rest) (rest_start c.args.kind rows);
      notes = no_notes rows c.args.kind c.new-notes.result c.new-notes.ensures.len;
    }

-- the row is of the kind, and stands under its key
pub is_in_cycle-requires : goal.is_in_cycle-requires
is_in_cycle-requires g c =
    let rows = g.R.Rows.rows c.args.rows.now in
    let next = sym c.in-Some.ensures in
    let row = c.in-Some.row.now in
    let same = sym (kind_from_place row.kind c.args.kind (next_kind c.args.kind (option_copied c.loop-row.after) rows row next)) in
    record {
      row = look_up-found (λ (r : Record). is_of_kind c.args.kind r && is_after (option_copied c.loop-row.after) r.id) rows row c.count-turns.ensures.order next;
      turns = c.count-turns.ensures.count ∙ ap (λ kind. count_of kind rows) same;
      notes = subst (λ kind. AreNotes rows kind c.loop-row.notes) same c.loop-row.invariant.notes;
    }

pub loop-row-smaller : goal.loop-row-smaller
loop-row-smaller g c =
    let rows = g.R.Rows.rows c.args.rows.now in
    let e = ap length (rest_at c.args.kind (option_copied c.loop-row.after) rows c.in-Some.row.now c.count-turns.ensures.order (sym c.in-Some.ensures)) in
    rw c.id.ensures (omega arith)

pub loop-row-preserved : goal.loop-row-preserved
loop-row-preserved g c =
    let rows = g.R.Rows.rows c.args.rows.now in
    let next = sym c.in-Some.ensures in
    let row = c.in-Some.row.now in
    let same = kind_from_place row.kind c.args.kind (next_kind c.args.kind (option_copied c.loop-row.after) rows row next) in
    let e = rest_at c.args.kind (option_copied c.loop-row.after) rows row c.count-turns.ensures.order next in
    record {
      found = rw (c.in_ok-add_row_faults.ensures, c.id.ensures) (append_assoc c.loop-row.found.items (row_faults rows row) (flat_map (row_faults rows) (rest_of c.args.kind (Some row.id) rows))
          ∙ ap (λ ys. c.loop-row.found.items ++ ys) (sym (ap (flat_map (row_faults rows)) e)) ∙ c.loop-row.invariant.found);
      notes = subst (λ kind. AreNotes rows kind c.is_in_cycle.new.notes) same c.in_ok-in_cycle.ensures.notes;
    }

pub returns : goal.returns
returns g c =
    let rows = g.R.Rows.rows c.args.rows.now in
    sym (append-nil c.loop-row.found.items) ∙ ap (λ rest. c.loop-row.found.items ++ flat_map (row_faults rows) rest) (sym (rest_none c.args.kind (option_copied c.loop-row.after) rows (sym c.in_default.ensures))) ∙ c.loop-row.invariant.found
