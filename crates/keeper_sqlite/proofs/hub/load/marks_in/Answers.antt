use Rattle.std.proofs.Common.{[], map, ap, ◌∙◌}
use Rattle.item_maps.specs.Edits.{entry_of}
use Rattle.hub_format.specs.Format.{items_of}
use Rattle.keeper_sqlite.proofs.HubKeepingLemmas.{listed_alike}
use Rattle.hub_format.proofs.TableListings.{marks_told}
use Rattle.keeper_sqlite.proofs.hub.load.marks_in.Goals as goal
use Rattle.hub_format.specs.Areas.{marks_area}
use Rattle.hub_format.specs.Pieces.{labels_end}

pub returns-in-Some-clause-marks : goal.returns-in-Some-clause-marks
returns-in-Some-clause-marks g c t has sure =
    c.from_vec.ensures
    ∙ rw c.in-Some.is at (c.in_ok-marks.ensures.found t.marks has.fit.marks (ap (map entry_of) c.as_slice.ensures.value ∙ (rw c.number.ensures at (c.in_ok-items.ensures.items has.items has.stands sure)) ∙ listed_alike marks_area [] labels_end has.items (items_of t) has.marks
    ∙ marks_told t has.are has.fit))
