use Rattle.std.proofs.Common.{◌≡◌, ap, length, vec_len, arith, rules}
use Rattle.version_core.specs.History.{pasts_of}
use Rattle.version_core.specs.Version.{empty_version}
use Rattle.version_core.specs.declared.change.BaseVersion.{BaseVersion}
use Rattle.version_core.proofs.ViewLemmas.{last_version_at}
use Rattle.version_core.proofs.version_log.VersionLog.newest.Goals as goal

pub returns : goal.returns
returns c =
    let log = c.self.inside in
    let number = ap (λ (v : BaseVersion). v.number) (last_version_at (pasts_of log.histories.items) log.grants.items empty_version log.number log.moment log.moments.items) in
    let len : vec_len log.moments ≡ length log.moments.items = search rules in
    rw (← c.self.view_is) (omega (arith, number, len, c.len.ensures))
