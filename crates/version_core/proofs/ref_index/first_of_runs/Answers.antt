use Rattle.std.proofs.Common.{◌∙◌, ◌+◌, List, option_copied, subst, sym}
use Rattle.std.proofs.lemmas.List.{get_or_default}
use Rattle.version_core.specs.Changes.{rows_of}
use Rattle.version_core.specs.History.{pasts_of, rows_at}
use Rattle.version_core.specs.RefIndex.{AllOf, AllUpTo, FirstOf}
use Rattle.version_core.specs.declared.ref_index.RefEntry.{RefEntry}
use Rattle.version_core.proofs.NamingRows.{named, refers_after}
use Rattle.version_core.proofs.RunLemmas.{first_more}
use Rattle.version_core.proofs.ref_index.first_of_runs.Goals as goal

pub loop-run-preserved : goal.loop-run-preserved
loop-run-preserved c =
    let rows = rows_of (rows_at c.args.version (pasts_of c.args.histories.now)) in
    let after = option_copied c.args.after in
    let test = refers_after c.args.asked.now.kind c.args.place c.args.asked.now.name.now c.args.asked.now.target.now after rows in
    let key = named c.args.asked.now.kind c.args.place c.args.asked.now.name.now c.args.asked.now.target.now after rows in
    let runs = c.args.runs.now in
    let i = c.loop-run.run-index in
    let run = c.run-item.result in
    let here = λ (d : List RefEntry). sym (c.run-item.is ∙ get_or_default runs i run d c.loop-run-test.true) in
    let next = subst (λ (entries : List RefEntry). FirstOf test rows key (AllOf entries) (option_copied c.first_naming-next.result)) c.entries.ensures.entries c.first_naming-next.ensures in
    subst (FirstOf test rows key (AllUpTo runs (i + 1))) (sym c.lesser-first.ensures)
    (first_more test rows key runs i run here (option_copied c.loop-run.first) (option_copied c.first_naming-next.result) c.loop-run.invariant next)
