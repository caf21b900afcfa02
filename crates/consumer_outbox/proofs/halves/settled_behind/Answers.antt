use Rattle.std.proofs.Common.{sym, ◌∙◌}
use Rattle.consumer_outbox.proofs.WalkLemmas.{settled_up_to}
use Rattle.consumer_outbox.proofs.halves.settled_behind.Goals as goal

pub returns-clause-settled : goal.returns-clause-settled
returns-clause-settled g c d stands =
    let entries = (g.met.C.CopyKeeper.is_copy c.entry.new.self d stands).entries in
    settled_up_to 0 c.args.after d.entries c.in-Some.entry c.in-Some-settled.field-0 entries.rise entries.settled (sym (sym c.in-Some.is ∙ c.in_ok-entry.ensures.shown d stands)) c.in-Some-settled.is
