use Rattle.std.proofs.Common.{[], ◌∷◌, map, ap, ◌∙◌, arith}
use Rattle.item_maps.specs.Edits.{entry_of}
use Rattle.version_core.specs.Version.{IsVersion}
use Rattle.version_core.proofs.TableLemmas.{base_meets}
use Rattle.hub_format.specs.Format.{items_of}
use Rattle.keeper_sqlite.proofs.HubKeepingLemmas.{listed_alike}
use Rattle.hub_format.proofs.TableListings.{state_told}
use Rattle.keeper_sqlite.proofs.hub.state.state_of_store.Goals as goal
use Rattle.hub_format.specs.Areas.{state_area}

pub returns-in-Some-clause-state : goal.returns-in-Some-clause-state
returns-in-Some-clause-state g c t has sure =
    let le = (base_meets IsVersion t.base t.changes has.are.versions).number in
    c.in-Some.ensures.state t.keep t.base has.fit.keep (omega (arith, le)) has.fit.moment
    (ap (map entry_of) c.as_slice.ensures.value ∙ (rw c.number.ensures at (c.in_ok-items.ensures.items has.items has.stands sure)) ∙ listed_alike state_area [] (0 ∷ []) has.items (items_of t) has.state ∙ state_told t)
