use Rattle.std.proofs.Common.{map, [], ap, ◌∙◌}
use Rattle.keeper_memory.specs.copy.Copies.{held_list}
use Rattle.item_maps.specs.Edits.{entry_of}
use Rattle.item_maps.specs.Items.{listed}
use Rattle.copy_format.proofs.CopyListings.{held_rows, held_told}
use Rattle.keeper_sqlite.proofs.copy.stored.stored_rows.Goals as goal
use Rattle.hub_format.specs.Pieces.{labels_end}

pub returns-in-Some-clause-rows : goal.returns-in-Some-clause-rows
returns-in-Some-clause-rows g c copy has sure =
    let side = c.args.side in
    let kind = c.args.kind in
    c.from_vec.ensures
    ∙ rw c.in-Some.is at (c.in_ok-rows.ensures.found (held_list copy kind) (held_rows side copy has.items has.stored has.is has.fit kind)
    (ap (map entry_of) c.as_slice.ensures.value ∙ c.in_ok-items.ensures.items has.items has.stands sure ∙ ap (λ area. listed area [] labels_end has.items) c.number.ensures
    ∙ held_told side copy has.items has.stored has.is has.fit kind))
