use Rattle.std.proofs.Common.{ap, map, ◌∙◌}
use Rattle.roster_base.specs.Order.{in_order}
use Rattle.grant_files.specs.Schools.{id_in}
use Rattle.grant_files.proofs.SchoolOrder.{ids_in_order}
use Rattle.grant_files.proofs.schools.in_order.Goals as goal

pub returns : goal.returns
returns c =
    c.new.ensures ∙ c.from_vec.ensures ∙ c.in_ok-ids.ensures ∙ ap (map id_in) (c.in_ok-schools.ensures.value ∙ ap (in_order id_in) c.in_ok-schools_of_ids.ensures)
    ∙ ids_in_order c.args.ids
