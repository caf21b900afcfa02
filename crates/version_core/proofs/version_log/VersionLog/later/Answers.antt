use Rattle.std.proofs.Common.{◌≡◌, ◌∷◌, length, vec_len, arith, rules}
use Rattle.version_core.specs.History.{pasts_of}
use Rattle.version_core.proofs.ViewLemmas.{length-versions_at}
use Rattle.version_core.proofs.version_log.VersionLog.later.Goals as goal

pub returns : goal.returns
returns c =
    let log = c.self.inside in
    let count = length-versions_at (pasts_of log.histories.items) log.grants.items log.number (log.moment ∷ log.moments.items) in
    let len : vec_len log.moments ≡ length log.moments.items = search rules in
    rw (← c.self.view_is) (omega (arith, count, len, c.len.ensures))
