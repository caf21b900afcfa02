use Rattle.std.proofs.Common.{◌≡◌, ◌+◌, ℕ, rules, map, None, Some, string_bytes}
use Rattle.roster_base.specs.Reading.{◌>>=◌}
use Rattle.hub_words.proofs.OptionWords.{options-command, options-missing, options-next, options-none}
use Rattle.hub_words.specs.Words.{option_of, option_words, set_option}
use Rattle.hub_words.proofs.options.+options_at.Goals as goal
use Rattle.hub_words.proofs.options.+options_at.Goals.{After-set_option}

-- behind an option and its value, the words go on
words_go_on : (t : ℕ) (c : After-set_option t) → option_words c.args.place c.args.options (map string_bytes c.args.words.now)
    ≡ (set_option (c.args.place + 1) c.args.options c.in-Some-option_of.option (string_bytes c.in-Some-split_first.value.now) >>= (λ more. option_words (c.args.place + 2) more (map string_bytes c.in-Some-split_first.behind.now)))
words_go_on t c =
    let names : option_of c.args.options (string_bytes c.in-Some.word.now) ≡ Some c.in-Some-option_of.option = cc in
    options-next c.args.place c.args.options c.args.words.now c.in-Some.word.now c.in-Some-split_first.value.now c.in-Some.behind.now c.in-Some-split_first.behind.now c.in-Some-option_of.option c.in-Some.ensures.cases.0 c.in-Some-split_first.ensures.cases.0 names

pub returns-in_default-clause-given : goal.returns-in_default-clause-given
returns-in_default-clause-given t c = options-none _ _ c.args.words.now c.in_default.ensures.cases

pub returns-in_default-option_of-clause-given : goal.returns-in_default-option_of-clause-given
returns-in_default-option_of-clause-given t c =
    let command : option_of c.args.options (string_bytes c.in-Some.word.now) ≡ None = cc in
    options-command c.args.place c.args.options c.args.words.now c.in-Some.word.now c.in-Some.behind.now c.in-Some.ensures.cases.0 command

pub returns-in_default-split_first-clause-given : goal.returns-in_default-split_first-clause-given
returns-in_default-split_first-clause-given t c =
    let names : option_of c.args.options (string_bytes c.in-Some.word.now) ≡ Some c.in-Some-option_of.option = cc in
    options-missing c.args.place c.args.options c.args.words.now c.in-Some.word.now c.in-Some.behind.now c.in-Some-option_of.option c.in-Some.ensures.cases.0 c.in_default-split_first.ensures.cases names

pub returns-in_err-options-clause-given : goal.returns-in_err-options-clause-given
returns-in_err-options-clause-given t c =
    rw (words_go_on t (goal.at.returns-in_err-options-clause-given t c).After-set_option) (rw (← c.as_str-2.ensures.value) (search rules))

pub returns-clause-given : goal.returns-clause-given
returns-clause-given t c =
    rw (words_go_on t (goal.at.returns-clause-given t c).After-set_option) (rw (← c.as_str-2.ensures.value) (search rules))
