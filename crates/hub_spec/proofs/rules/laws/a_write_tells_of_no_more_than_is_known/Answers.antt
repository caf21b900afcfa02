use Rattle.hub_spec.proofs.Withholding.{same_written_reply}
use Rattle.hub_spec.proofs.rules.laws.a_write_tells_of_no_more_than_is_known.Goals as goal

pub returns : goal.returns
returns c = same_written_reply
