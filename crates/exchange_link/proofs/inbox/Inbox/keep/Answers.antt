use Rattle.std.proofs.Common.{◌≡◌, ◌⊎◌, true, false, inl, inr, refl, ap, not}
use Rattle.std.specs.Prelude.{Ok}
use Rattle.exchange_link.specs.Exchanges.{Carries}
use Rattle.roster_base.specs.Faults.{Rose}
use Rattle.exchange_link.proofs.inbox.Inbox.keep.Goals as goal

pub returns-in-Ok-clause-own : goal.returns-in-Ok-clause-own
returns-in-Ok-clause-own c q is =
    elim c.in-Ok.own as (λ b. c.in-Ok.own ≡ b → Carries c.args.came q.echo ⊎ Rose c.args.self.now.tally.faults c.count.new.self.faults) [
      | true ↦ λ own. inl (c.in-Ok.ensures (ap Ok own) q is)
      | false ↦ λ other. inr (c.count.ensures.rose (ap not other))
    ] refl
