use Rattle.std.proofs.Common.{refl}
use Rattle.sync_world.proofs.AskLemmas.{is_stopped}
use Rattle.sync_world.proofs.asking.take_turn.Goals as goal

pub returns-in-Err-clause-turns : goal.returns-in-Err-clause-turns
returns-in-Err-clause-turns c =
    (is_stopped c.args.source.now c.next.new.source c.in-Err.ensures.bytes.0 c.args.reader.now c.next.new.self c.in-Err.fault c.requires c.in-Err.ensures.stream c.in-Err.ensures.bytes.2 c.in-Err.ensures.cause, refl, refl)
