use Rattle.std.proofs.Common.{◌∙◌, ap}
use Rattle.filter_grammar.specs.Manners.{AsText}
use Rattle.filter_grammar.specs.declared.filter.Predicate.{Predicate}
use Rattle.filter_grammar.specs.rows.Filters.{value_passes}
use Rattle.query_pages.proofs.FilterTests.{equal_texts, unequal_texts}
use Rattle.query_pages.proofs.text_test.wanted_by.Goals as goal

pub returns-in-Equal : goal.returns-in-Equal
returns-in-Equal c = λ form text v. ap (λ (p : Predicate). value_passes AsText form p v text) c.in-Equal.is ∙ equal_texts form text v

pub returns-in-NotEqual : goal.returns-in-NotEqual
returns-in-NotEqual c = λ form text v. ap (λ (p : Predicate). value_passes AsText form p v text) c.in-NotEqual.is ∙ unequal_texts form text v
