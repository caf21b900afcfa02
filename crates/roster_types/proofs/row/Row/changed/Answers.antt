use Rattle.std.proofs.Common.{◌≡◌, ◌∙◌, ap, subst, sym}
use Rattle.roster_types.specs.Lengths.{row_length}
use Rattle.roster_types.specs.Records.{Record}
use Rattle.roster_types.proofs.Dates.{IsRow-changed, row_length-changed}
use Rattle.roster_types.specs.Rows.{IsRow}
use Rattle.roster_types.proofs.row.Row.changed.Goals as goal

pub invariant_of-result : goal.invariant_of-result
invariant_of-result c = subst IsRow (sym c.changed.ensures) (IsRow-changed c.self.inside.parts c.args.status c.args.at c.milliseconds.ensures.range c.self.invariant)

pub returns-clause-length : goal.returns-clause-length
returns-clause-length c =
    subst (λ (r : Record). row_length c.changed.result ≡ row_length r) c.self.view_is
    (ap row_length c.changed.ensures ∙ row_length-changed c.self.inside.parts c.args.status c.args.at c.milliseconds.ensures.range c.self.invariant)
