use Rattle.std.proofs.Common.{◌≡◌, ◌∙◌, ap, arith, get_or, length, refl, sym}
use Rattle.std.proofs.lemmas.List.{length-map}
use Rattle.roster_values.specs.Table.{Info, info_of, table}
use Rattle.roster_values.proofs.FieldLaws.{next_field}
use Rattle.csv_sets.proofs.PlaceSteps.{none_told, places_end, places_missing, places_on, some_told}
use Rattle.csv_sets.proofs.header.read_places.Goals as goal
use Rattle.csv_sets.proofs.header.read_places.Goals.{else-is_none-via-then-is_none+else-info_in}
use Rattle.csv_sets.proofs.header.read_places.Goals.{else-is_none-via-else-is_none}

pub returns-then-info_in : goal.returns-then-info_in
returns-then-info_in c =
    rw c.in_ok-column_fault.ensures
    (places_missing (info_of (get_or c.fields-info-items.result.now c.loop-field.field _)) _ c.loop-field.invariant
    (next_field _ _ _ _ _ c.fields-info-items.ensures (omega arith) refl)
    (sym c.place_of-place.ensures ∙ none_told _ _ c.is_none.ensures c.if-is_none.true)
    (ap (λ (i : Info). i.required) (sym c.info_in.ensures) ∙ c.if-info_in.true))

pub loop-field-preserved : goal.loop-field-preserved
loop-field-preserved c =
    rw c.in_ok-push.ensures.items
    (places_on (info_of (get_or c.fields-info-items.result.now c.loop-field.field _)) c.place_of-place.result c.loop-field.invariant
    (next_field _ _ _ _ _ c.fields-info-items.ensures (omega arith) refl)
    c.place_of-place.ensures
    (λ asked. elim c.else-is_none.branch [
      | else-is_none-via-then-is_none+else-info_in w ↦ cc (ap (λ (i : Info). i.required) w.info_in.ensures ∙ asked, w.if-info_in.false)
      | else-is_none-via-else-is_none w ↦ some_told _ _ c.is_none.ensures w.if-is_none.false
    ]))

pub returns : goal.returns
returns c =
    let whole : length (table c.args.kind) ≡ length c.fields-info-items.result.now = sym (ap length c.fields-info-items.ensures) ∙ length-map c.fields-info-items.result.now info_of in
    places_end c.loop-field.invariant (omega arith)
