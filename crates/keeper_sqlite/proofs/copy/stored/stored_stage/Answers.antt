use Rattle.std.proofs.Common.{map, ap, ◌∙◌}
use Rattle.item_maps.specs.Edits.{entry_of}
use Rattle.copy_format.proofs.CopyListings.{stage_told}
use Rattle.keeper_sqlite.proofs.copy.stored.stored_stage.Goals as goal

pub returns-in-Some-clause-stage : goal.returns-in-Some-clause-stage
returns-in-Some-clause-stage g c side copy has sure =
    rw c.in-Some.is at (c.in_ok-stage.ensures.found copy.stage has.is.stage has.fit.stage
    (ap (map entry_of) c.as_slice.ensures.value ∙ (rw c.number.ensures at (c.in_ok-items.ensures.items has.items has.stands sure)) ∙ stage_told side copy has.items has.stored has.is has.fit))
