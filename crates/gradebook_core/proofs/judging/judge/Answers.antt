use Rattle.std.proofs.Common.{None, Some}
use Rattle.gradebook_core.proofs.Verdicts.{both, each, judges, may_lead, repeats_held, repeats_none}
use Rattle.gradebook_core.specs.Judging.{IsNewlyMade, MayLead, RepeatsOneOf, verdict_of}
use Rattle.hub_spec.specs.rules.Verdicts.{Judges, NewJudged}
use Rattle.version_core.specs.Version.{newest_of}
use Rattle.gradebook_core.proofs.judging.judge.Goals as goal

pub returns-in-Some-clause-verdict : goal.returns-in-Some-clause-verdict
returns-in-Some-clause-verdict c = λ state newest marks.
    let version = newest_of c.args.table.now in
    judges state version c.args.marks.now.marks c.args.asking.now.by.now c.args.asking.now.mark c.args.write.now c.args.asking.now.at (Some c.in-Some.held.now) newest marks c.in-Some.ensures (verdict_of version c.repeated.result) (c.repeated.ensures.verdict version)

pub returns-in-Some-clause-leads : goal.returns-in-Some-clause-leads
returns-in-Some-clause-leads c = c.repeated.ensures.leads (newest_of c.args.table.now)

pub returns-in-None-clause-verdict : goal.returns-in-None-clause-verdict
returns-in-None-clause-verdict c = λ state newest marks.
    let version = newest_of c.args.table.now in
    let by = c.args.asking.now.by.now in
    let write = c.args.write.now in
    each (λ made. NewJudged write.delete version by write c.args.asking.now.at (verdict_of version made)) (λ made. Judges state by c.args.asking.now.mark write c.args.asking.now.at (verdict_of version made)) c.new_judged.result
    (λ made judged. judges state version c.args.marks.now.marks by c.args.asking.now.mark write c.args.asking.now.at None newest marks c.in-None.ensures (verdict_of version made) judged)
    c.new_judged.ensures.verdict

pub returns-in-None-clause-leads : goal.returns-in-None-clause-leads
returns-in-None-clause-leads c =
    let version = newest_of c.args.table.now in
    let by = c.args.asking.now.by.now in
    let write = c.args.write.now in
    both (λ made. NewJudged write.delete version by write c.args.asking.now.at (verdict_of version made)) IsNewlyMade (MayLead version) c.new_judged.result
    (λ made judged order. may_lead version c.newest_rows.ensures.version by write c.args.asking.now.at made judged order)
    c.new_judged.ensures.verdict c.new_judged.ensures.order

pub returns-in-Some-clause-repeats : goal.returns-in-Some-clause-repeats
returns-in-Some-clause-repeats c = repeats_held c.args.marks.now.marks c.args.asking.now.by.now.caller c.args.asking.now.mark c.in-Some.held.now c.in-Some.ensures c.repeated.result c.repeated.ensures.repeats

pub returns-in-None-clause-repeats : goal.returns-in-None-clause-repeats
returns-in-None-clause-repeats c =
    let marks = c.args.marks.now.marks in
    each IsNewlyMade (RepeatsOneOf marks) c.new_judged.result (repeats_none marks) c.new_judged.ensures.order
