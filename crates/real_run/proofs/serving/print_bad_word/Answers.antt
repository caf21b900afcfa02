use Rattle.hub_words.specs.Words.{split_serve}
use Rattle.real_run.proofs.ServeLemmas.{bad_without_memory}
use Rattle.real_run.proofs.serving.print_bad_word.Goals as goal

pub returns-in-Err : goal.returns-in-Err
returns-in-Err g c = λ w bad. bad_without_memory _ _ _ _ _ c.print-in-Err.ensures.done c.print-in-Err.ensures.fault c.args.place (split_serve w) bad
