use Rattle.std.proofs.Common.{◌≤◌, List, subst, sym}
use Rattle.gradebook_core.proofs.WriteSteps.{done, failed, may_commit, told_low}
use Rattle.gradebook_core.specs.declared.written.Written.{Written}
use Rattle.keeper_memory.specs.Kept.{newest_kept}
use Rattle.version_core.specs.Marks.{AreMarks}
use Rattle.version_core.specs.Outcomes.{deleted_outcome}
use Rattle.version_core.specs.Version.{newest_of}
use Rattle.version_core.specs.declared.mark.MarkRow.{MarkRow}
use Rattle.gradebook_core.proofs.writing.write.Goals as goal

pub commit-requires-clause-may : goal.commit-requires-clause-may
commit-requires-clause-may g c =
    may_commit c.args.hub.now.kept c.table-table.result.now c.marks.result.now.marks c.table-table.ensures.versions c.marks.ensures c.args.asking.now.by.now c.args.asking.now.mark c.args.write c.args.asking.now.at c.in_ok-judgement.judgement
    c.in_ok-judgement.ensures.verdict c.in_ok-judgement.ensures.leads c.written_by-written.result c.written_by-written.ensures c.in_ok-due.due c.in_ok-due.ensures c.table-table.ensures.kept

pub returns-in-Ok-clause-told : goal.returns-in-Ok-clause-told
returns-in-Ok-clause-told g c = λ after standing.
    let told = c.in-Ok.ensures.told after standing in (
      told.0,
      done c.args.hub.now.kept c.table-table.result.now c.marks.result.now.marks c.table-table.ensures.versions c.marks.ensures c.args.asking.now.by.now c.args.asking.now.mark c.args.write c.args.asking.now.at c.in_ok-judgement.judgement
          c.in_ok-judgement.ensures.verdict c.in_ok-judgement.ensures.leads c.written_by-written.result c.written_by-written.ensures c.in_ok-due.due c.in_ok-due.ensures after told.1,
    )

pub returns-in-Err-clause-told : goal.returns-in-Err-clause-told
returns-in-Err-clause-told g c = λ after standing.
    let told = c.in-Err.ensures.told after standing in (
      told.0,
      failed c.args.hub.now.kept c.table-table.result.now c.marks.result.now.marks c.table-table.ensures.versions c.marks.ensures c.args.asking.now.by.now c.args.asking.now.mark c.args.write c.args.asking.now.at c.in_ok-judgement.judgement
          c.in_ok-judgement.ensures.verdict c.in_ok-judgement.ensures.leads c.written_by-written.result c.written_by-written.ensures c.in_ok-due.due c.in_ok-due.ensures c.in-Err.error after told.1,
    )

pub returns-in-Ok-clause-outcome : goal.returns-in-Ok-clause-outcome
returns-in-Ok-clause-outcome g c =
    let newest = newest_of c.table-table.result.now in
    let kept = c.table-table.ensures.kept.marks in
    let marks = c.marks.result.now.marks in
    let are = subst (λ (ms : List MarkRow). AreMarks (newest_kept c.args.hub.now.kept.versions).number ms) (sym c.marks.ensures) kept in
    subst (λ (w : Written). w.outcome ≤ deleted_outcome) (sym c.written_by-written.ensures)
    (told_low (newest_kept c.args.hub.now.kept.versions).number marks are newest c.args.asking.now.mark c.args.write c.in_ok-judgement.judgement c.in_ok-judgement.ensures.repeats)
