use Rattle.std.proofs.Common.{map, ap, ◌∙◌}
use Rattle.item_maps.specs.Edits.{entry_of}
use Rattle.copy_format.proofs.CopyListings.{state_told}
use Rattle.keeper_sqlite.proofs.copy.stored.stored_root.Goals as goal

pub returns-in-Some-clause-root : goal.returns-in-Some-clause-root
returns-in-Some-clause-root g c side copy has sure =
    c.in-Some.ensures.found side copy has.is
    (ap (map entry_of) c.as_slice.ensures.value ∙ (rw c.number.ensures at (c.in_ok-items.ensures.items has.items has.stands sure)) ∙ state_told side copy has.items has.stored has.is has.fit)
