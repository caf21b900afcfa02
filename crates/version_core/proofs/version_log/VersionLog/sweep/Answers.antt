use Rattle.std.proofs.Common.{List, ◌∷◌, arith, subst}
use Rattle.version_core.specs.History.{pasts_of}
use Rattle.version_core.specs.RefIndex.{StayIndexed}
use Rattle.version_core.specs.declared.history.History.{History}
use Rattle.version_core.proofs.IndexedVersions.{kept_versions_stay}
use Rattle.version_core.proofs.version_log.VersionLog.sweep.Goals as goal

-- the same versions, with less in the index
pub invariant_of-self : goal.invariant_of-self
invariant_of-self c =
    let log = c.self.inside in
    let is = c.self.invariant in
    record {
      versions = is.versions;
      pasts = is.pasts;
      up_to = is.up_to;
      grants = is.grants;
      spare = is.spare;
      fresh = is.fresh;
      room = λ keys some.
          let room = is.room keys some in
          record { moments = room.moments; grants = room.grants; histories = room.histories; spare = room.spare; fresh = room.fresh; grown = room.grown };
      index = λ on.
          let refs = c.sweep-self-inside.new.runs.items in
          let stay = subst (λ (hs : List History). StayIndexed log.number (pasts_of hs) log.refs.items refs) c.deref.ensures.value c.sweep-self-inside.ensures.stay in
          kept_versions_stay log.number log.refs.items refs (pasts_of log.histories.items) stay log.grants.items log.number (log.moment ∷ log.moments.items) (omega arith) (is.index on);
    }
