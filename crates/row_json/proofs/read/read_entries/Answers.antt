use Rattle.std.proofs.Common.{◌≡◌, Ok, Some, None, string_bytes}
use Rattle.std.proofs.lemmas.Result.{err_from_is_err_and}
use Rattle.serde_json.specs.Find.{as_str}
use Rattle.serde_json.specs.View.{view}
use Rattle.row_json.specs.Reading.{entry_in}
use Rattle.row_json.proofs.MetadataSteps.{entry_read, entry_rises, gathers-blank, gathers-end, gathers-fail}
use Rattle.row_json.proofs.MetadataSteps.{gathers-one, gathers-start}
use Rattle.row_json.proofs.read.read_entries.Goals.{In-Some-2}
use Rattle.row_json.proofs.read.read_entries.Goals as goal

pub loop-name-init : goal.loop-name-init
loop-name-init c = rw (c.into_iter-name-iterator.ensures.into_iter_gives, c.iter-name-items.ensures.rest)
    (gathers-start _ c.args.members.now.entries c.new-metadata.ensures c.iter-name-items.ensures.ordered)

-- the member is an entry
entry_is : (c : In-Some-2) → entry_in (string_bytes c.in-Some.name.now) (as_str (view c.in-Some.value.now))
    ≡ Ok (Some c.in-Some-2.entry)
entry_is c = rw (c.as_str.ensures.value, c.in-Some-2.is) at c.in_ok-entry.ensures

pub returns-in_err-entry : goal.returns-in_err-entry
returns-in_err-entry c =
    let p = err_from_is_err_and c.from_residual.result c.from_residual.ensures.1 in
    rw (p.1, p.2)
    (gathers-fail (c.in-Some.name.now, c.in-Some.value.now) _ c.loop-name.invariant c.in-Some.ensures.steps
    (rw c.as_str.ensures.value at c.in_err-entry.ensures))

pub push-requires-clause-order : goal.push-requires-clause-order
push-requires-clause-order c =
    let read = entry_is (goal.at.push-requires-clause-order c).In-Some-2 in
    entry_rises (c.in-Some.name.now, c.in-Some.value.now) c.in-Some-2.entry c.loop-name.invariant
    c.in-Some.ensures.steps (entry_read _ _ c.in-Some-2.entry read).named

pub push-requires-clause-plain : goal.push-requires-clause-plain
push-requires-clause-plain c =
    let read = entry_is (goal.at.push-requires-clause-plain c).In-Some-2 in
    (entry_read _ _ c.in-Some-2.entry read).plain

pub loop-name-preserved-in-Continue-branch-3 : goal.loop-name-preserved-in-Continue-branch-3
loop-name-preserved-in-Continue-branch-3 c =
    let read = entry_is (goal.at.loop-name-preserved-in-Continue-branch-3 c).In-Some-2 in
    gathers-one (c.in-Some.name.now, c.in-Some.value.now) c.in-Some-2.entry _ c.loop-name.invariant
    c.in-Some.ensures.steps read (entry_read _ _ c.in-Some-2.entry read).named c.in_ok-push-in-Some-2.ensures.ok

pub loop-name-preserved : goal.loop-name-preserved
loop-name-preserved c =
    let read : entry_in (string_bytes c.in-Some.name.now) (as_str (view c.in-Some.value.now)) ≡ Ok None =
    rw (c.as_str.ensures.value, c.in-None-2.is) at c.in_ok-entry.ensures in
    gathers-blank (c.in-Some.name.now, c.in-Some.value.now) c.loop-name.invariant c.in-Some.ensures.steps read

pub returns : goal.returns
returns c = gathers-end c.loop-name.invariant c.in-None.ensures.steps.0
