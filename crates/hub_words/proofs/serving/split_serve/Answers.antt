use Rattle.std.proofs.lemmas.Result.{err_from_is_err_and}
use Rattle.hub_words.specs.Words.{serve_command, served_by}
use Rattle.hub_words.proofs.SplitWords.{split-bad, split-read}
use Rattle.hub_words.proofs.serving.split_serve.Goals as goal

pub returns-in_err-task : goal.returns-in_err-task
returns-in_err-task c =
    let p = err_from_is_err_and c.from_residual-in_err-task.result c.from_residual-in_err-task.ensures.1 in
    rw (p.1, p.2) (split-bad served_by serve_command c.args.words.now c.in_ok-options.options c.in_ok-options.place c.split_at.result.1.now c.split_at.ensures.back _ c.in_ok-options.ensures.given c.in_err-task.ensures)

pub returns : goal.returns
returns c = split-read served_by serve_command c.args.words.now c.in_ok-options.options c.in_ok-options.place c.split_at.result.1.now c.split_at.ensures.back c.in_ok-task.task c.in_ok-options.ensures.given c.in_ok-task.ensures
