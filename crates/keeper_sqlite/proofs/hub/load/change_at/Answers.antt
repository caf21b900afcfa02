use Rattle.std.proofs.Common.{Some, map, ap, ◌∙◌}
use Rattle.item_maps.specs.Edits.{entry_of}
use Rattle.hub_format.specs.Format.{version_entry}
use Rattle.keeper_sqlite.proofs.hub.load.change_at.Goals as goal

pub returns-then-has_none-clause-change : goal.returns-then-has_none-clause-change
returns-then-has_none-clause-change g c m change stands fits versions told rows_told grants_told sure =
    absurd (let other = c.has_none.ensures.some (version_entry change) (ap (map entry_of) c.as_slice.ensures.value ∙ c.in_ok-items.ensures.items m stands sure ∙ told) in let same = c.if-has_none.true in cc)

pub returns-clause-change : goal.returns-clause-change
returns-clause-change g c m change stands fits versions told rows_told grants_told sure =
    let before = c.in_ok-change.ensures.trust sure in
    ap Some (c.in_ok-change.ensures.change m change (c.in_ok-items.ensures.same m stands) fits versions (ap (map entry_of) c.as_slice-2.ensures.value ∙ c.in_ok-items.ensures.items m stands before ∙ told) rows_told grants_told sure)

pub returns-clause-none : goal.returns-clause-none
returns-clause-none g c m stands told sure =
    let before = c.in_ok-change.ensures.trust sure in
    absurd (let same = c.has_none.ensures.none (ap (map entry_of) c.as_slice.ensures.value ∙ c.in_ok-items.ensures.items m stands before ∙ told) in let other = c.if-has_none.false in cc)
