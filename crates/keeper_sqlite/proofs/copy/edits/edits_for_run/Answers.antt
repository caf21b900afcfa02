use Rattle.keeper_sqlite.proofs.copy.edits.edits_for_run.Goals as goal

pub returns-clause-edits : goal.returns-clause-edits
returns-clause-edits g c side copy has sure = (c.in_ok-run_edits.ensures side copy (c.in_ok-root.ensures.root side copy has sure), tt)
