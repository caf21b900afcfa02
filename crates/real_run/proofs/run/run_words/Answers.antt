use Rattle.real_run.proofs.RealLemmas.{runs-wanting}
use Rattle.real_run.proofs.run.run_words.Goals as goal

pub returns-in-Err : goal.returns-in-Err
returns-in-Err g c = runs-wanting c.print.ensures.done c.print.ensures.fault
