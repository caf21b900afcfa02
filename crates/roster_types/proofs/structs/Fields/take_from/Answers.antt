use Rattle.std.proofs.Common.{◌-◌, ◌∙◌, ap, arith, drop, length}
use Rattle.std.proofs.lemmas.List.{length-drop, take_all}
use Rattle.roster_types.proofs.structs.Fields.take_from.Goals as goal
use Rattle.roster_values.specs.Table.{common_fields}

pub returns-clause-values : goal.returns-clause-values
returns-clause-values c =
    let all = c.deref_mut.result.now in
    c.in_ok-fields.ensures.values ∙ take_all (length all - common_fields) (drop common_fields all) (omega (arith, length-drop common_fields all)) ∙ ap (λ vs. drop common_fields vs) c.deref_mut.ensures.value
