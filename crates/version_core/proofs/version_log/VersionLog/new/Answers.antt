use Rattle.std.proofs.Common.{[], refl, rules}
use Rattle.version_core.specs.History.{ArePasts}
use Rattle.version_core.proofs.GrantLemmas.{no_grants}
use Rattle.version_core.proofs.version_log.VersionLog.new.Goals as goal

no_pasts : ArePasts []
no_pasts = record { all = tt; ascend = refl }

pub invariant_of-result : goal.invariant_of-result
invariant_of-result c = record {
  versions = rw (c.epoch.ensures, c.new-2.ensures.items, c.new-3.ensures.items, c.new.ensures.items) (record { number = search rules; rows = refl; few = λ kind. search rules; grants = no_grants 0 }, tt);
  pasts = rw c.new-3.ensures.items no_pasts;
  up_to = rw c.new-3.ensures.items tt;
  grants = rw c.new-2.ensures.items tt;
  spare = c.new-4.ensures.items;
  fresh = rw c.new-5.ensures.items tt;
  room = λ keys none. cc;
  index = λ on. cc;
}
