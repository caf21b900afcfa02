use Rattle.std.proofs.Common.{◌||◌, lit<, not, rules, ◌∙◌}
use Rattle.std.proofs.lemmas.Iterator.Search.{all_from_yields_List}
use Rattle.std.proofs.lemmas.Iterator.Splits.{YieldsList-from_str_split}
use Rattle.std.specs.List.{slice_split}
use borrow.Author.Tests.{tests}
use Rattle.roster_texts.specs.Trim.{is_space}
use Rattle.roster_values.specs.Lists.{is_filled}
use Rattle.grant_scopes.specs.Words.{is_scope, last_word, words_of}
use Rattle.grant_scopes.proofs.WordSteps.{all_words}
use Rattle.grant_scopes.proofs.words.are_scopes.Goals as goal

pub returns : goal.returns
unfolding words_of
returns c =
    let pieces = YieldsList-from_str_split 32 c.args.text.now (lit< tt) c.split.ensures.text c.split.ensures.has_more c.split.ensures.pattern in
    all_from_yields_List (λ p. not (is_filled p) || is_scope (last_word p)) _ _ c.all.result c.all.ensures.ran pieces (λ x b q k. search (rules, tests)) ∙ all_words (slice_split is_space c.args.text.now)
