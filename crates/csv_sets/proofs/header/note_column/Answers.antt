use Rattle.std.proofs.Common.{◌≡◌, rules, true, sym, ◌∙◌, refl, string_bytes}
use Rattle.std.proofs.lemmas.Bool.{not-false}
use Rattle.std.specs.BTreeSet.{contains_text}
use Rattle.csv_sets.specs.Headers.{is_read}
use Rattle.csv_sets.specs.Columns.{noted}
use Rattle.csv_sets.proofs.HeaderSteps.{notes_none, notes_one}
use Rattle.csv_sets.proofs.header.note_column.Goals as goal

pub returns-then-not-is_read-clause-notes : goal.returns-then-not-is_read-clause-notes
returns-then-not-is_read-clause-notes c = notes_none _ _ _ (sym c.is_read.ensures ∙ c.if-not-is_read.true)

pub returns-then-not-branch-clause-once : goal.returns-then-not-branch-clause-once
unfolding noted
returns-then-not-branch-clause-once c =
    let read : is_read c.args.kind c.args.column.now ≡ true = sym c.is_read.ensures ∙ c.if-not-is_read.false in
    let same : string_bytes c.in_ok-from_str.field-0 ≡ c.args.column.now = search rules in
    let there : contains_text c.args.seen.now c.args.column.now ≡ true = rw (← same) (not-false _ (sym c.in_ok-insert.ensures.added ∙ c.if-not-branch.true)) in
    rw (read, there, sym c.in_ok-column_fault.ensures) refl

pub returns-clause-notes : goal.returns-clause-notes
returns-clause-notes c =
    let same : string_bytes c.in_ok-from_str.field-0 ≡ c.args.column.now = search rules in
    notes_one c.args.kind c.args.seen.now c.insert.new.self c.in_ok-from_str.field-0 c.args.column.now same c.in_ok-insert.ensures.updates
