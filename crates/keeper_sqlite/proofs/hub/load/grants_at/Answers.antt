use Rattle.std.proofs.Common.{map, ap, ◌∙◌}
use Rattle.item_maps.specs.Edits.{entry_of}
use Rattle.keeper_sqlite.proofs.hub.load.grants_at.Goals as goal

pub returns-in-Some-clause-grants : goal.returns-in-Some-clause-grants
returns-in-Some-clause-grants g c m grants stands fits told sure =
    c.from_vec.ensures
    ∙ rw c.in-Some.is at (c.in_ok-grants.ensures.found c.args.version grants fits (ap (map entry_of) c.as_slice.ensures.value ∙ c.in_ok-items.ensures.items m stands sure ∙ told))
