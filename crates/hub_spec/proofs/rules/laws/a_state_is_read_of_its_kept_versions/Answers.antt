use Rattle.hub_spec.proofs.Versions.{reads_kept}
use Rattle.hub_spec.proofs.rules.laws.a_state_is_read_of_its_kept_versions.Goals as goal

pub returns : goal.returns
returns c = reads_kept
