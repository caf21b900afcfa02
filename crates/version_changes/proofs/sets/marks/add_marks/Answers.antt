use Rattle.std.proofs.Common.{◌≡◌, ◌++◌, List, append_assoc, append-nil, false, length, Some, sym, ap, subst, ◌∙◌}
use Rattle.std.proofs.Common.{arith, option_copied}
use Rattle.std.specs.Option.{option_to_list}
use Rattle.reference_rules.proofs.Rest.{rest_of, rest_start}
use Rattle.roster_types.specs.Keys.{look_up}
use Rattle.roster_types.specs.declared.set.SetPart.{SetPart}
use Rattle.version_changes.proofs.MarkLemmas.{marks_begin, marks_end, none_marked, rest_begins}
use Rattle.version_changes.specs.sets.Applying.{is_whole, set_key}
use Rattle.version_changes.specs.sets.Steps.{mark_of, marks_of}
use Rattle.version_core.specs.Changes.{change_key, rows_of}
use Rattle.version_changes.proofs.sets.marks.add_marks.Goals as goal

pub loop-stored-init : goal.loop-stored-init
loop-stored-init c =
    ap (λ rest. c.args.marks.now.items ++ marks_of c.args.set.now c.args.at c.args.listed.now c.args.view.now.rows rest) (rest_start c.args.kind (rows_of c.args.view.now.rows))

pub loop-stored-smaller : goal.loop-stored-smaller
loop-stored-smaller c =
    let e = ap length (rest_begins c.args.set.now c.args.at c.args.listed.now c.args.view.now.rows c.in-Some.ensures.sorted c.args.kind (option_copied c.loop-stored.after) c.in-Some.stored.now c.in-Some.ensures.next) in
    rw c.id.ensures (omega arith)

pub loop-stored-preserved : goal.loop-stored-preserved
loop-stored-preserved c =
    let set = c.args.set.now in
    let index = c.args.listed.now in
    let rows = c.args.view.now.rows in
    let stored = c.in-Some.stored.now in
    let e = marks_begin set c.args.at index rows c.in-Some.ensures.sorted c.args.kind (option_copied c.loop-stored.after) stored c.in-Some.ensures.next in
    let mark = mark_of set c.args.at (look_up set_key (change_key stored) index) stored in
    rw (c.in_ok-add_mark.ensures, c.in_ok-mark.ensures, c.id.ensures) (append_assoc c.loop-stored.marks.items (option_to_list mark) (marks_of set c.args.at index rows (rest_of c.args.kind (Some stored.row.id) (rows_of rows)))
    ∙ ap (λ ys. c.loop-stored.marks.items ++ ys) (sym e) ∙ c.loop-stored.invariant)

pub returns : goal.returns
returns c =
    let e = marks_end c.args.set.now c.args.at c.args.listed.now c.args.view.now.rows c.in_default.ensures.sorted c.args.kind (option_copied c.loop-stored.after) c.in_default.ensures.next in
    sym (append-nil c.loop-stored.marks.items) ∙ ap (λ ys. c.loop-stored.marks.items ++ ys) (sym e) ∙ c.loop-stored.invariant

-- no row of the kind is left out
pub returns-then-not-is_whole : goal.returns-then-not-is_whole
returns-then-not-is_whole c =
    let part = subst (λ (parts : List SetPart). is_whole parts c.args.kind ≡ false) c.parts.ensures.parts (sym c.is_whole.ensures ∙ c.if-not-is_whole.true) in
    sym (append-nil c.args.marks.now.items) ∙ ap (λ ys. c.args.marks.now.items ++ ys) (sym (none_marked c.args.set.now c.args.at c.args.listed.now c.args.view.now.rows c.args.kind part (rows_of c.args.view.now.rows)))
