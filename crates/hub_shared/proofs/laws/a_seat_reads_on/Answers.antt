use Rattle.hub_shared.proofs.Orders.{in_order}
use Rattle.hub_shared.proofs.laws.a_seat_reads_on.Goals as goal

pub returns : goal.returns
returns c = in_order
