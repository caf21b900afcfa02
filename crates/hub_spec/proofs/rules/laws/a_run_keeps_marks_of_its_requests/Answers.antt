use Rattle.hub_spec.proofs.Growing.{run_marks}
use Rattle.hub_spec.proofs.rules.laws.a_run_keeps_marks_of_its_requests.Goals as goal

pub returns : goal.returns
returns c = run_marks
