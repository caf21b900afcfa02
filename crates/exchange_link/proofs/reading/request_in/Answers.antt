use Rattle.exchange_link.proofs.ReadingLemmas.{never_fails, read_request}
use Rattle.exchange_link.proofs.reading.request_in.Goals as goal

pub unreachable-requires : goal.unreachable-requires
unreachable-requires c = never_fails _ _ _ _ c.requires.fresh c.requires.sent c.in_default.not-NoMemory c.in-Err.ensures.cause c.in-Err.ensures.stream

pub returns-in-Ok : goal.returns-in-Ok
returns-in-Ok c q is = read_request _ _ _ _ c.requires.fresh c.in-Ok.ensures.stream q is
