use Rattle.std.proofs.Common.{◌∙◌, ap, sym, subst, arith}
use Rattle.keeper_memory.specs.copy.Copies.{entry_after}
use Rattle.keeper_memory.specs.declared.copy.change.CopyChange.TheVariants.{Settle}
use Rattle.keeper_sqlite.specs.copy.Keeping.{AreEditsOf}
use Rattle.keeper_sqlite.proofs.EntryLemmas.{settle_first}
use Rattle.keeper_sqlite.proofs.copy.edits.edits_for_settling.Goals as goal

pub returns-in_ok-settle_edits-in-Some-clause-edits : goal.returns-in_ok-settle_edits-in-Some-clause-edits
returns-in_ok-settle_edits-in-Some-clause-edits g c side copy has can sure =
    let entry = c.in-Some.entry in
    let is = rw c.in-Some.is at c.numbered.ensures in
    let read = c.in_ok-found.ensures.entry side copy has sure in
    let first = settle_first copy c.args.number entry has.is can (sym is.0 ∙ read ∙ ap (λ k. entry_after k copy.entries) (let less = c.saturating_sub.ensures in omega (arith, less))) in
    let made = c.in_ok-settle_edits-in-Some.ensures in
    subst (λ n. AreEditsOf side copy (Settle n c.args.status c.args.version) c.in_ok-settle_edits-in-Some.field-0.items) is.1 (made.edits side copy first, made.fits copy)
