use Rattle.std.proofs.Common.{bytes_eq, sym, ap, ◌∙◌}
use Rattle.std.specs.List.{list_any}
use Rattle.roster_values.specs.Table.{Info, info_of}
use Rattle.roster_base.proofs.ListSteps.{list_any-map}
use Rattle.csv_sets.proofs.header.is_known.Goals as goal

pub returns : goal.returns
returns c =
    c.has_column.ensures
    ∙ sym (list_any-map (λ (i : Info). bytes_eq i.column c.args.column.now) info_of c.fields.result.now)
    ∙ ap (list_any (λ (i : Info). bytes_eq i.column c.args.column.now)) c.fields.ensures
