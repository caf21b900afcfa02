use Rattle.roster_types.specs.Keys.{count_of}
use Rattle.reference_rules.proofs.ParentChains.{in_cycle_from_test, test_from_in_cycle}
use Rattle.reference_rules.proofs.cycles_are_found.Goals as goal

pub returns-clause-sound : goal.returns-clause-sound
returns-clause-sound c = λ rows kind id found. in_cycle_from_test rows kind id (count_of kind rows) found

pub returns-clause-complete : goal.returns-clause-complete
returns-clause-complete c = λ rows kind id cycle. test_from_in_cycle rows kind id (count_of kind rows) cycle.0 cycle.1 cycle.2 cycle.3
