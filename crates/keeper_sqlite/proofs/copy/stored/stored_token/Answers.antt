use Rattle.std.proofs.Common.{map, ap, ◌∙◌}
use Rattle.item_maps.specs.Edits.{entry_of}
use Rattle.copy_format.proofs.CopyListings.{token_told}
use Rattle.keeper_memory.specs.copy.Copies.{held_token}
use Rattle.keeper_sqlite.proofs.copy.stored.stored_token.Goals as goal

pub returns-in-Some-clause-token : goal.returns-in-Some-clause-token
returns-in-Some-clause-token g c side copy has sure =
    rw c.in-Some.is at (c.in_ok-token.ensures (held_token copy)
    (ap (map entry_of) c.as_slice.ensures.value ∙ (rw c.number.ensures at (c.in_ok-items.ensures.items has.items has.stands sure)) ∙ token_told side copy has.items has.stored has.is has.fit))
