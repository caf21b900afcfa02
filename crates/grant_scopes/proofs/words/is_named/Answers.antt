use Rattle.std.proofs.Common.{◌&&◌, bytes_eq, lit<, rules, ◌∙◌}
use Rattle.std.proofs.lemmas.Iterator.Search.{any_from_yields_List}
use Rattle.std.proofs.lemmas.Iterator.Splits.{YieldsList-from_str_split}
use Rattle.std.specs.List.{slice_split}
use borrow.Author.Tests.{tests}
use Rattle.roster_texts.specs.Trim.{is_space}
use Rattle.roster_values.specs.Lists.{is_filled}
use Rattle.grant_scopes.specs.Words.{last_word, words_of}
use Rattle.grant_scopes.proofs.WordSteps.{some_word}
use Rattle.grant_scopes.proofs.words.is_named.Goals as goal

pub returns : goal.returns
unfolding words_of
returns c =
    let word = c.args.scope.now.word.now in
    let pieces = YieldsList-from_str_split 32 c.args.text.now (lit< tt) c.split.ensures.text c.split.ensures.has_more c.split.ensures.pattern in
    any_from_yields_List (λ p. is_filled p && bytes_eq word (last_word p)) _ _ c.any.result c.any.ensures.ran pieces (λ x b q k. search (rules, tests)) ∙ some_word word (slice_split is_space c.args.text.now)
