use Rattle.std.proofs.Common.{◌<◌, ◌+◌, ◌∙◌, None, ap, drop, get_or, option_map, refl, subst, sym}
use Rattle.roster_types.specs.Records.{all_values}
use Rattle.roster_values.specs.Table.{info_of, table}
use Rattle.roster_values.specs.Value.{shown}
use Rattle.roster_values.proofs.FieldLaws.{next_field}
use Rattle.roster_base.proofs.ListSteps.{next_item}
use Rattle.gradebook_core.proofs.Within.{as_many, one_less, one_more}
use Rattle.version_core.specs.Changes.{rows_of}
use Rattle.gradebook_core.proofs.fields.is_within.Goals as goal

pub value-requires : goal.value-requires
value-requires c =
    let e = c.fields-infos.ensures ∙ ap table c.kind.ensures.kind in
    subst (λ n. c.loop-place.place < n) (as_many c.args.row.now c.fields-infos.result.now c.kind.ensures.row e) c.loop-place-test.true

pub returns-then-not-names_seen : goal.returns-then-not-names_seen
returns-then-not-names_seen c =
    let row = c.args.row.now in
    let e = c.fields-infos.ensures ∙ ap table c.kind.ensures.kind in
    let here = subst (λ n. c.loop-place.place < n) (as_many row c.fields-infos.result.now c.kind.ensures.row e) c.loop-place-test.true in
    sym
    (one_less c.args.grant.now.schools (rows_of c.args.view.now.rows) _ (drop (c.loop-place.place + 1) (table row.kind)) _ (drop (c.loop-place.place + 1) (all_values row))
    (info_of (get_or c.fields-infos.result.now c.loop-place.place _)) (option_map shown c.value.result) (next_field _ _ _ _ _ e c.loop-place-test.true refl)
    (next_item (all_values row) c.loop-place.place (option_map shown c.value.result) None here c.value.ensures.value) (sym c.names_seen.ensures ∙ c.if-not-names_seen.true))
    ∙ c.loop-place.invariant

pub loop-place-preserved : goal.loop-place-preserved
loop-place-preserved c =
    let row = c.args.row.now in
    let e = c.fields-infos.ensures ∙ ap table c.kind.ensures.kind in
    let here = subst (λ n. c.loop-place.place < n) (as_many row c.fields-infos.result.now c.kind.ensures.row e) c.loop-place-test.true in
    one_more c.args.grant.now.schools (rows_of c.args.view.now.rows) _ (drop (c.loop-place.place + 1) (table row.kind)) _ (drop (c.loop-place.place + 1) (all_values row))
    (info_of (get_or c.fields-infos.result.now c.loop-place.place _)) (option_map shown c.value.result) (next_field _ _ _ _ _ e c.loop-place-test.true refl)
    (next_item (all_values row) c.loop-place.place (option_map shown c.value.result) None here c.value.ensures.value) (sym c.names_seen.ensures ∙ c.if-not-names_seen.false)
    ∙ c.loop-place.invariant
