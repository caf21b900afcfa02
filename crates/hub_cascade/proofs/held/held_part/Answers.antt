use Rattle.std.proofs.Common.{◌∙◌, ap, map}
use Rattle.hub_cascade.specs.Steps.{dated}
use Rattle.roster_values.specs.declared.mode.Mode.TheVariants.{Bulk}
use Rattle.hub_cascade.proofs.held.held_part.Goals as goal

pub returns-clause-is : goal.returns-clause-is
returns-clause-is g c = record {
  rows = c.in_ok-rows.rows;
  list = c.in_ok-rows.ensures.any;
  is = λ i. record { kind = c.args.kind; mode = Bulk; rows = c.in_ok-dated.ensures i };
}

pub returns-clause-held : goal.returns-clause-held
returns-clause-held g c = λ copy stands.
    let rows = c.in_ok-dated.ensures ∙ ap (map dated) (c.in_ok-rows.ensures.shown copy stands) in
    λ i. record { kind = c.args.kind; mode = Bulk; rows = rows i }
