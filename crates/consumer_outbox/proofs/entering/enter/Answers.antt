use Rattle.std.proofs.Common.{◌+◌, ap}
use Rattle.std.specs.Prelude.{Ok, Err}
use Rattle.keeper_memory.specs.declared.copy.state.CopyState.{CopyState}
use Rattle.consumer_outbox.proofs.CallLemmas.{commits_agree}
use Rattle.consumer_outbox.proofs.entering.enter.Goals as goal

pub returns-in-Err-commit-clause-agree : goal.returns-in-Err-commit-clause-agree
returns-in-Err-commit-clause-agree g c told agree d stands =
    let x = c.in-Err-commit.ensures.told d stands in
    let shown = c.in-Ok.ensures.shown x.0 x.1 in
    commits_agree (c.in-Ok.state.last_number + 1) c.args.write (Err c.in-Err-commit.error) x.0 d told (ap (λ (s : CopyState). s.last_number + 1) shown) x.2 (agree x.0 (c.state.ensures.same x.0 x.1))

pub returns-clause-agree : goal.returns-clause-agree
returns-clause-agree g c told agree d stands =
    let x = c.in-Ok-commit.ensures.told d stands in
    let shown = c.in-Ok.ensures.shown x.0 x.1 in
    commits_agree (c.in-Ok.state.last_number + 1) c.args.write (Ok c.in-Ok-commit.field-0) x.0 d told (ap (λ (s : CopyState). s.last_number + 1) shown) x.2 (agree x.0 (c.state.ensures.same x.0 x.1))

pub returns-in-Err-commit-clause-copy_leads : goal.returns-in-Err-commit-clause-copy_leads
returns-in-Err-commit-clause-copy_leads g c = g.met.C.CopyKeeper.leads_on _ _ _ c.state.ensures.leads c.commit.ensures.leads

pub returns-clause-copy_leads : goal.returns-clause-copy_leads
returns-clause-copy_leads g c = g.met.C.CopyKeeper.leads_on _ _ _ c.state.ensures.leads c.commit.ensures.leads
