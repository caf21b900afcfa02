use Rattle.real_run.proofs.ServeLemmas.{good_without_memory}
use Rattle.real_run.proofs.serving.print_status.Goals as goal

pub returns-then-status-eq-NO_MEMORY : goal.returns-then-status-eq-NO_MEMORY
returns-then-status-eq-NO_MEMORY g c = λ w. good_without_memory _ _ _ _ _ c.print.ensures.done c.print.ensures.fault w
