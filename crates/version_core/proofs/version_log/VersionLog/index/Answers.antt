use Rattle.std.proofs.Common.{List, ◌∷◌, subst}
use Rattle.version_core.specs.RefIndex.{ArePastsIndexed}
use Rattle.version_core.specs.declared.ref_index.RefEntry.{RefEntry}
use Rattle.version_core.proofs.IndexedVersions.{said_versions}
use Rattle.version_core.proofs.version_log.VersionLog.index.Goals as goal

-- the same versions, with an index of all their rows
pub invariant_of-self : goal.invariant_of-self
invariant_of-self c =
    let log = c.self.inside in
    let is = c.self.invariant in
    record {
      versions = is.versions;
      pasts = is.pasts;
      up_to = is.up_to;
      grants = is.grants;
      spare = is.spare;
      fresh = is.fresh;
      room = λ keys some.
          let room = is.room keys some in
          record { moments = room.moments; grants = room.grants; histories = room.histories; spare = room.spare; fresh = room.fresh; grown = room.grown };
      index = λ on.
          let refs = c.in-Ok.refs.items in
          let told = subst (λ (runs : List (List RefEntry)). ArePastsIndexed runs c.deref-3.result.now) c.deref-2.ensures.value (c.are_pasts_indexed-self-inside.ensures on) in
          let said = subst (ArePastsIndexed refs) c.deref-3.ensures.value told in
          said_versions refs log.histories.items said log.grants.items log.number (log.moment ∷ log.moments.items);
    }
