use Rattle.std.proofs.Common.{◌≡◌, ◌<◌, ◌≤◌, ◌+◌, ◌∷◌, drop, length, arith}
use Rattle.std.proofs.lemmas.List.{length-map}
use Rattle.std.proofs.lemmas.Result.{err_from_is_err_and}
use Rattle.csv.specs.Records.{fields_of}
use Rattle.csv_sets.specs.Headers.{columns_of}
use Rattle.csv_sets.proofs.HeaderSteps.{checks_end, checks_none, checks_some, fails_metadata, fails_noted, next_column}
use Rattle.csv_sets.proofs.header.read_metadata.Goals as goal
use Rattle.csv_sets.proofs.header.read_metadata.Goals.{After-note_column, in-Some+in_ok-push, in_default}

-- the column at the loop's place is the next of those that are left
column_next : (c : After-note_column) → drop c.loop-place.place (columns_of (fields_of c.args.cells.now))
    ≡ c.column_at-column.result.now ∷ drop (c.loop-place.place + 1) (columns_of (fields_of c.args.cells.now))
column_next c =
    let within : c.loop-place.place < length (fields_of c.args.cells.now) = omega arith in
    next_column _ _ _ c.column_at-column.ensures within

pub returns-in_err-note_column : goal.returns-in_err-note_column
returns-in_err-note_column c =
    let next = column_next (goal.at.returns-in_err-note_column c).After-note_column in
    let p = err_from_is_err_and c.from_residual.result c.from_residual.ensures.1 in
    rw (p.1, p.2)
    (fails_noted c.column_at-column.result.now _ c.in_err-note_column.field-0.0 c.loop-place.invariant next
    c.in_err-note_column.ensures.once)

pub returns-in_err-found : goal.returns-in_err-found
returns-in_err-found c =
    let next = column_next (goal.at.returns-in_err-found c).After-note_column in
    let p = err_from_is_err_and c.from_residual-in_err-found.result c.from_residual-in_err-found.ensures.1 in
    rw (p.1, p.2)
    (fails_metadata c.column_at-column.result.now _ c.in_err-found.field-0.0 c.loop-place.invariant next
    c.in_ok-note_column.ensures.once c.in_err-found.ensures)

pub loop-place-preserved : goal.loop-place-preserved
loop-place-preserved c =
    let next = column_next (goal.at.loop-place-preserved c).After-note_column in
    elim c.match-branch-3.branch [
      | in-Some+in_ok-push w ↦
          rw (w.metadata-is, w.in_ok-push.ensures.items)
          (checks_some c.note_column.new.seen c.column_at-column.result.now w.in-Some.found c.loop-place.invariant next
          c.in_ok-note_column.ensures.once c.in_ok-note_column.ensures.notes
          (rw w.in-Some.is at c.in_ok-found.ensures))
      | in_default w ↦
          rw w.metadata-is
          (checks_none c.note_column.new.seen c.column_at-column.result.now c.loop-place.invariant next
          c.in_ok-note_column.ensures.once c.in_ok-note_column.ensures.notes
          (rw w.in_default.is at c.in_ok-found.ensures))
    ]

pub returns : goal.returns
returns c =
    let past : length (columns_of (fields_of c.args.cells.now)) ≤ c.loop-place.place = rw length-map (omega arith) in
    checks_end c.loop-place.invariant past
