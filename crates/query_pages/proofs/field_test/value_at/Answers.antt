use Rattle.std.proofs.Common.{◌≡◌, ◌∙◌, None, ap, arith, length, sym}
use Rattle.std.proofs.lemmas.List.{get_or_past, length-map}
use Rattle.filter_grammar.proofs.ValueLemmas.{lent_year}
use Rattle.roster_types.proofs.Sums.{fields-values}
use Rattle.roster_types.specs.Records.{all_values}
use Rattle.roster_values.specs.Table.{info_of, table}
use Rattle.query_pages.proofs.field_test.value_at.Goals as goal

pub returns-then-place-fields-clause-value : goal.returns-then-place-fields-clause-value
returns-then-place-fields-clause-value c =
    let row = c.args.row.now in
    let infos = c.fields.result.now in
    let table_is : length infos ≡ length (table row.kind) = sym (length-map infos info_of) ∙ ap length c.fields.ensures ∙ ap (λ k. length (table k)) c.kind.ensures.kind in
    let values = fields-values row c.kind.ensures.row.fitting in
    sym (get_or_past (all_values row) c.args.place None (omega (arith, table_is, values, c.if-place-fields.true)))

pub value-requires : goal.value-requires
value-requires c =
    let row = c.args.row.now in
    let infos = c.fields.result.now in
    let table_is : length infos ≡ length (table row.kind) = sym (length-map infos info_of) ∙ ap length c.fields.ensures ∙ ap (λ k. length (table k)) c.kind.ensures.kind in
    let values = fields-values row c.kind.ensures.row.fitting in
    omega (arith, table_is, values, c.if-place-fields.false)

pub returns-clause-year : goal.returns-clause-year
returns-clause-year c = lent_year c.args.row.now c.args.place c.value.result c.value.ensures.row.fitting c.value.ensures.value
