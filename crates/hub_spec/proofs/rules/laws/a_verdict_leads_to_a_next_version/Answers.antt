use Rattle.hub_spec.proofs.Keeping.{verdict_next}
use Rattle.hub_spec.proofs.rules.laws.a_verdict_leads_to_a_next_version.Goals as goal

pub returns : goal.returns
returns c = verdict_next
