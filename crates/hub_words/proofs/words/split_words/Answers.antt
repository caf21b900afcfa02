use Rattle.std.proofs.lemmas.Result.{err_from_is_err_and}
use Rattle.hub_words.specs.Words.{command_words, parsed_of}
use Rattle.hub_words.proofs.SplitWords.{split-bad, split-read}
use Rattle.hub_words.proofs.words.split_words.Goals as goal

pub returns-in_err-command : goal.returns-in_err-command
returns-in_err-command c =
    let p = err_from_is_err_and c.from_residual-in_err-command.result c.from_residual-in_err-command.ensures.1 in
    rw (p.1, p.2) (split-bad parsed_of command_words c.args.words.now c.in_ok-options.options c.in_ok-options.place c.split_at.result.1.now c.split_at.ensures.back _ c.in_ok-options.ensures.given c.in_err-command.ensures)

pub returns : goal.returns
returns c = split-read parsed_of command_words c.args.words.now c.in_ok-options.options c.in_ok-options.place c.split_at.result.1.now c.split_at.ensures.back c.in_ok-command.command c.in_ok-options.ensures.given c.in_ok-command.ensures
