use Rattle.exchange_link.proofs.beginning.begin_run.Goals as goal

pub returns-in_err-commit-clause-copy_leads : goal.returns-in_err-commit-clause-copy_leads
returns-in_err-commit-clause-copy_leads g c = g.met.C.CopyKeeper.leads_on _ _ _ c.state.ensures.leads c.commit.ensures.leads

pub returns-clause-copy_leads : goal.returns-clause-copy_leads
returns-clause-copy_leads g c = g.met.C.CopyKeeper.leads_on _ _ _ c.state.ensures.leads c.commit.ensures.leads
