use Rattle.reference_rules.proofs.KeyOrder.{and_first}
use Rattle.row_walks.proofs.Walking.{covers_all}
use Rattle.query_pages.proofs.pages.part.Goals as goal

-- what is listed belongs, and what belongs is on the way
pub part_of-requires : goal.part_of-requires
part_of-requires g c = covers_all c.args.walk.now _ _ (λ row among listed. c.requires row among (and_first _ _ listed))
