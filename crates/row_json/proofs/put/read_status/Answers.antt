use Rattle.std.proofs.Common.{subst}
use Rattle.serde_json.specs.View.{view}
use Rattle.roster_base.specs.Reading.{Gives}
use Rattle.roster_values.specs.Table.{Info}
use Rattle.row_json.specs.Puts.{member_value, status_field}
use Rattle.row_json.proofs.PutSteps.{member_fits, second_field}
use Rattle.row_json.proofs.put.read_status.Goals as goal

pub returns-clause-value : goal.returns-clause-value
returns-clause-value c = subst (λ (info : Info). Gives (λ v. v) c.read_member.result (member_value info (view c.args.row.now))) (second_field c.args.kind c.fields.result.now _ c.fields.ensures) c.read_member.ensures

pub returns-clause-fit : goal.returns-clause-fit
returns-clause-fit c =
    member_fits status_field (view c.args.row.now) c.read_member.result
    (subst (λ (info : Info). Gives (λ v. v) c.read_member.result (member_value info (view c.args.row.now))) (second_field c.args.kind c.fields.result.now _ c.fields.ensures) c.read_member.ensures)
