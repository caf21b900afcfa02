use Rattle.std.proofs.Common.{sym, subst}
use Rattle.keeper_sqlite.specs.copy.Keeping.{AreEditsOf}
use Rattle.keeper_sqlite.proofs.copy.edits.edits_for.Goals as goal

pub returns-in_ok-begin_edits-in-Begin-clause-edits : goal.returns-in_ok-begin_edits-in-Begin-clause-edits
returns-in_ok-begin_edits-in-Begin-clause-edits g c side copy has can sure =
    let made = c.in_ok-begin_edits-in-Begin in
    subst (λ change. AreEditsOf side copy change made.field-0.items) (sym c.in-Begin.is) (made.ensures.edits side copy, made.ensures.fits copy)
