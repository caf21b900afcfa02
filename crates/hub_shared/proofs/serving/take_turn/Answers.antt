use Rattle.std.proofs.Common.{refl, rules}
use Rattle.hub_shared.proofs.serving.take_turn.Goals as goal

pub returns-in-Ok-written-clause-turns : goal.returns-in-Ok-written-clause-turns
returns-in-Ok-written-clause-turns g c = (
  record { request = c.in-Ok.request; reply = c.pass-reply.result },
  record { read = record { read = search rules; source = search rules }; taken = c.pass-reply.ensures },
  refl,
  search rules,
  search rules,
)

pub returns-in-Err-written-clause-turns : goal.returns-in-Err-written-clause-turns
returns-in-Err-written-clause-turns g c = (
  record { request = c.in-Ok.request; reply = c.pass-reply.result },
  record { read = record { read = search rules; source = search rules }; taken = c.pass-reply.ensures },
  search rules,
  search rules,
)
