use Rattle.std.proofs.Common.{◌≡◌, ◌∙◌, ℕ, List, Some, ap, sym}
use Rattle.filter_grammar.specs.Manners.{manner_of}
use Rattle.filter_grammar.specs.Subjects.{OfTable, subject_of, subject_shown}
use Rattle.filter_grammar.specs.declared.subject.Subject.{Subject}
use Rattle.filter_grammar.specs.rows.Filters.{value_passes}
use Rattle.query_pages.proofs.FilterTests.{asked_at}
use Rattle.query_pages.specs.FilterTests.{value_test_passes}
use Rattle.roster_values.specs.Table.{info_of}
use Rattle.query_pages.proofs.field_test.field_test.Goals as goal

pub returns : goal.returns
returns c = λ row of.
    let info = info_of c.in-Some-OfTable.info.now in
    let asked = c.args.comparison.now in
    let kind = c.args.kind in
    let named : Some (OfTable info) ≡ subject_of kind c.as_str.result.now = ap (λ (s : Subject). Some (subject_shown s)) (sym c.in-Some-OfTable.field-0-is) ∙ c.in-Some-OfTable.ensures in
    let subject : subject_of kind asked.field ≡ Some (OfTable info) = ap (subject_of kind) (sym c.as_str.ensures) ∙ sym named in
    asked_at kind info asked c.in_ok-place.place (value_test_passes c.value_test-asked.result) row subject (sym c.in_ok-place.ensures)
    (λ v. ap (λ (t : List ℕ). value_passes (manner_of info.form) info.form asked.predicate v t) (sym c.as_str-text.ensures) ∙ c.value_test-asked.ensures v) of
