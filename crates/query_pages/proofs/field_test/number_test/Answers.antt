use Rattle.std.proofs.Common.{◌∙◌, ℤ, Option, ap, sym}
use Rattle.filter_grammar.specs.Manners.{Manner}
use Rattle.filter_grammar.specs.rows.Filters.{value_passes}
use Rattle.query_pages.proofs.FilterTests.{ordered_numbers}
use Rattle.query_pages.specs.FilterTests.{number_passes}
use Rattle.roster_values.specs.Table.{form_of}
use Rattle.query_pages.proofs.field_test.number_test.Goals as goal

pub returns-in-Ok : goal.returns-in-Ok
returns-in-Ok c = λ v.
    let form = form_of c.args.form in
    let predicate = c.args.predicate in
    ap (λ (m : Manner). value_passes m form predicate v c.args.text.now) c.if-not-is_of_number.ensures
    ∙ ordered_numbers predicate form c.args.text.now v (sym c.if-not-is_of_order.ensures)
    ∙ ap (λ (n : Option ℤ). number_passes predicate n v) (sym c.in-Ok.ensures)
