use Rattle.std.proofs.Common.{subst}
use Rattle.serde_json.specs.View.{view}
use Rattle.roster_base.specs.Reading.{Gives}
use Rattle.roster_values.specs.Table.{Info}
use Rattle.row_json.specs.Puts.{member_value}
use Rattle.row_json.proofs.PutSteps.{first_field}
use Rattle.row_json.proofs.put.read_id.Goals as goal

pub returns : goal.returns
returns c = subst (λ (info : Info). Gives (λ v. v) c.read_member.result (member_value info (view c.args.row.now))) (first_field c.args.kind c.fields.result.now _ c.fields.ensures) c.read_member.ensures
