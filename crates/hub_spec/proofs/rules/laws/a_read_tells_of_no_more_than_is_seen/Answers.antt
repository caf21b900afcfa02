use Rattle.hub_spec.proofs.Isolating.{same_reply}
use Rattle.hub_spec.proofs.rules.laws.a_read_tells_of_no_more_than_is_seen.Goals as goal

pub returns : goal.returns
returns c = same_reply
