use Rattle.keeper_sqlite.proofs.copy.edits.edits_for_entry.Goals as goal

pub returns-clause-edits : goal.returns-clause-edits
returns-clause-edits g c side copy has sure =
    (c.in_ok-enter_edits.ensures.edits side copy (c.in_ok-root.ensures.root side copy has (c.in_ok-stored_entry.ensures.trust sure)), c.in_ok-enter_edits.ensures.fits copy)
