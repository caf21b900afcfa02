use Rattle.std.proofs.Common.{◌∙◌, option_copied, sym}
use Rattle.version_core.specs.Changes.{rows_of}
use Rattle.version_core.specs.History.{pasts_of, rows_at}
use Rattle.version_core.proofs.HistoryLemmas.{Ascends-rows_at}
use Rattle.version_core.proofs.IndexLemmas.{answers, no_field}
use Rattle.version_core.proofs.RowsOf.{is_sorted-rows_of}
use Rattle.version_core.proofs.ref_index.indexed.Goals as goal

pub returns : goal.returns
returns c =
    let changes = rows_at c.args.version (pasts_of c.args.histories.now) in
    answers c.args.asked.now.kind c.in-Some.place c.args.asked.now.name.now c.args.asked.now.target.now (option_copied c.args.after) (rows_of changes)
    (is_sorted-rows_of changes ∙ Ascends-rows_at c.args.version (pasts_of c.args.histories.now) c.requires.pasts)
    c.args.runs.now c.requires.indexed (sym c.in-Some.ensures) (option_copied c.first_of_runs.result) c.first_of_runs.ensures

pub returns-in_default : goal.returns-in_default
returns-in_default c =
    sym (no_field c.args.asked.now.kind c.args.asked.now.name.now c.args.asked.now.target.now (option_copied c.args.after) (rows_of (rows_at c.args.version (pasts_of c.args.histories.now))) (sym c.in_default.ensures))
