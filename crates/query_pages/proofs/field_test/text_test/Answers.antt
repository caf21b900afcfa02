use Rattle.std.proofs.Common.{◌∙◌, ap}
use Rattle.filter_grammar.specs.Manners.{Manner}
use Rattle.filter_grammar.specs.rows.Filters.{value_passes}
use Rattle.roster_values.specs.Table.{form_of}
use Rattle.query_pages.proofs.field_test.text_test.Goals as goal

pub returns : goal.returns
returns c = λ v.
    let form = form_of c.args.form in
    ap (λ (m : Manner). value_passes m form c.args.predicate v c.args.text.now) c.if-not-is_of_text.ensures ∙ c.in_ok-wanted.ensures form c.args.text.now v
