use Rattle.rest_provider.proofs.turn.take_turn.Goals as goal

pub returns-in-Err-clause-leads : goal.returns-in-Err-clause-leads
returns-in-Err-clause-leads g c = g.met.H.HubKeeper.stays _
