use Rattle.std.proofs.Common.{subst, sym}
use Rattle.hub_cascade.proofs.Listing.{are_parts, lists_held}
use Rattle.hub_cascade.specs.Steps.{ListsHeld}
use Rattle.hub_cascade.proofs.held.read_set.Goals as goal

pub new-requires : goal.new-requires
new-requires g c = are_parts c.in_ok-parts.parts c.in_ok-parts.ensures.are

pub returns-clause-lists : goal.returns-clause-lists
returns-clause-lists g c =
    let copies = g.C.CopyKeeper.stands_for c.held_parts.new.copy in
    let feed = c.in_ok-feed.feed in
    let parts = c.in_ok-parts.parts in
    let listed : ListsHeld copies feed c.new.result = subst (ListsHeld copies feed) (sym c.new.ensures) (lists_held copies feed parts c.in_ok-parts.ensures.are c.in_ok-parts.ensures.held) in
    subst (λ f. ListsHeld copies f c.new.result) c.in_ok-feed.ensures listed
