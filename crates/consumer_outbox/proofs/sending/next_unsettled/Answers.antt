use Rattle.std.proofs.Common.{arith, sym, subst, ◌∙◌}
use Rattle.std.specs.Prelude.{IfSome, Option}
use Rattle.keeper_memory.specs.copy.States.{CanBeEntry}
use Rattle.keeper_memory.specs.declared.copy.entry.OutEntry.{OutEntry}
use Rattle.consumer_outbox.proofs.WalkLemmas.{walk_ends, walk_finds, walk_goes, walk_over}
use Rattle.consumer_outbox.proofs.sending.next_unsettled.Goals as goal

pub returns-in-Ok-None-clause-next : goal.returns-in-Ok-None-clause-next
returns-in-Ok-None-clause-next g c d stands =
    walk_ends c.settled.at d.entries (sym (c.in-Ok-None.ensures.shown d stands) ∙ c.in-Ok-None.field-0-is) (c.settled.invariant.walked d (c.entry.ensures.same d stands))

pub returns-in-None-clause-next : goal.returns-in-None-clause-next
returns-in-None-clause-next g c d stands =
    walk_finds c.settled.at d.entries c.in-Ok-Some.entry (sym (c.in-Ok-Some.ensures.shown d stands) ∙ c.in-Ok-Some.field-0-is) c.in-None.is (c.settled.invariant.walked d (c.entry.ensures.same d stands))

pub returns-clause-next : goal.returns-clause-next
returns-clause-next g c d stands =
    let is = g.met.C.CopyKeeper.is_copy c.settled.copy d stands in
    walk_over c.settled.at d.last_number 1_000_000_000_000_000 d.entries (omega (arith, c.settled-test.false)) is.last is.entries.below (c.settled.invariant.walked d stands)

pub settled-preserved : goal.settled-preserved
settled-preserved g c =
    let can : CanBeEntry c.settled.at c.in-Ok-Some.entry = subst (λ (o : Option OutEntry). IfSome o (CanBeEntry c.settled.at)) c.in-Ok-Some.field-0-is c.in-Ok-Some.ensures.any in
    record {
      same = λ d stands. c.settled.invariant.same d (c.entry.ensures.same d (c.settled_from.ensures.same d stands));
      walked = c.in-Ok.ensures.settled;
      leads = g.met.C.CopyKeeper.leads_on _ _ _ c.settled.invariant.leads (g.met.C.CopyKeeper.leads_on _ _ _ c.entry.ensures.leads c.settled_from.ensures.copy_leads);
      low = omega (arith, can.above, c.settled.invariant.low, c.in-Ok.ensures.above);
      later = omega (arith, c.settled.invariant.later, c.entry.ensures.later, c.settled_from.ensures.later);
    }

pub settled_from-requires : goal.settled_from-requires
settled_from-requires g c d stands =
    walk_goes 0 c.settled.at d.entries c.in-Ok-Some.entry c.in-Some.field-0 (g.met.C.CopyKeeper.is_copy c.entry.new.self d stands).entries.rise
    (sym (c.in-Ok-Some.ensures.shown d stands) ∙ c.in-Ok-Some.field-0-is) c.in-Some.is (c.settled.invariant.walked d (c.entry.ensures.same d stands))
