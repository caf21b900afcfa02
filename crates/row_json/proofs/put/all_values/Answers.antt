use Rattle.std.proofs.Common.{◌≡◌, ◌∷◌, true, List, Option, Some, sym, subst, rules}
use Rattle.roster_types.specs.Shapes.{fits_all}
use Rattle.roster_values.specs.Table.{table}
use Rattle.roster_values.specs.declared.value.Value.{Value}
use Rattle.roster_values.specs.declared.value.Value.TheVariants as field
use Rattle.row_json.proofs.PutSteps.{put_fits}
use Rattle.row_json.proofs.put.all_values.Goals as goal

pub returns-clause-fit : goal.returns-clause-fit
returns-clause-fit c =
    let same : c.append.new.self.items ≡ Some (field.Id c.args.id.now) ∷ c.args.status ∷ Some (field.Moment c.args.at) ∷ c.args.own.items = search rules in
    subst (λ (vs : List (Option Value)). fits_all (table c.args.kind) vs ≡ true) (sym same)
    (put_fits c.args.kind c.args.id.now c.args.status c.args.at c.args.own.items c.as_str.ensures.good c.milliseconds.ensures.range c.requires.status c.requires.own)
