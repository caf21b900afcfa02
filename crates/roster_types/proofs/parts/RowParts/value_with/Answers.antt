use Rattle.std.proofs.Common.{◌≡◌, ◌+◌, ◌-◌, None, ap, arith, slice_index_or, ◌∙◌}
use Rattle.std.proofs.lemmas.List.{get_or-drop}
use Rattle.roster_types.specs.Records.{all_values}
use Rattle.roster_types.proofs.parts.RowParts.value_with.Goals as goal
use Rattle.roster_values.specs.Table.{common_fields}

pub returns-in_default : goal.returns-in_default
returns-in_default c =
    let all = all_values (record c.args.self.now { status = c.args.status }) in
    let behind : common_fields + (c.args.place - common_fields) ≡ c.args.place = omega (arith, c.in_default) in
    c.value.ensures ∙ ap (λ vs. slice_index_or vs (c.args.place - common_fields) None) c.fields.ensures.values ∙ get_or-drop common_fields all (c.args.place - common_fields) None ∙ ap (λ k. slice_index_or all k None) behind
