use Rattle.std.proofs.Common.{◌+◌, take, ◌∙◌, arith}
use Rattle.item_maps.specs.Items.{listed}
use Rattle.hub_format.specs.Pieces.{number}
use Rattle.keeper_memory.specs.declared.copy.state.TheConstants.{LAST as last_number}
use Rattle.keeper_sqlite.proofs.RangeLemmas.{first_range}
use Rattle.keeper_sqlite.proofs.copy.stored.item_above.Goals as goal
use Rattle.copy_format.specs.Areas.{outbox_area}

pub returns-clause-item : goal.returns-clause-item
returns-clause-item g c m stands sure =
    let told = c.in_ok-items.ensures.items m stands sure ∙ (λ i. take 1 (listed (c.number.ensures i) (c.to_be_bytes.ensures i) (c.to_be_bytes-2.ensures i) m)) in
    first_range c.in_ok-items.items.items c.pop.new.self.items c.pop.result (listed outbox_area (number (c.args.after + 1)) (number (last_number + 1)) m) told c.pop.ensures.items (λ some. c.pop.ensures.variant.1 (omega (arith, some)))
