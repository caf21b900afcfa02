use Rattle.std.proofs.Common.{◌≡◌, ◌+◌, ◌∙◌, ap, subst}
use Rattle.hub_history.specs.Histories.{changes_in}
use Rattle.hub_history.specs.Published.{Published, history}
use Rattle.keeper_memory.specs.Kept.{KeptState, newest_kept}
use Rattle.hub_shared.proofs.Reading.{counts}
use Rattle.hub_shared.specs.Standings.{published_of}
use Rattle.hub_shared.proofs.locked.LockedHub.newest.Goals as goal

pub returns : goal.returns
returns g c =
    let o = g.N.Naming.opening in
    let log = published_of c.self.inside.slot in
    let here = c.newest.ensures ∙ ap (λ (vs : _). (newest_kept vs).number) (c.table.ensures.versions ∙ ap (λ (k : KeptState). k.versions) c.self.invariant.1.replays) in
    subst (λ (l : Published). c.newest.result ≡ (newest_kept o.versions).number + changes_in (history l)) (ap (λ v. v.log) c.self.view_is) (here ∙ counts o (history log) c.self.invariant.1.legal)
