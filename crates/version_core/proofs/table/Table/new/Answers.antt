use Rattle.std.proofs.Common.{[], ◌∷◌, ℕ, refl, arith}
use Rattle.version_core.specs.Table.{AreKept}
use Rattle.version_core.specs.Version.{empty_version}
use Rattle.version_core.proofs.GrantLemmas.{no_grants}
use Rattle.version_core.proofs.table.Table.new.Goals as goal

-- version 0 alone
alone : (keep : ℕ) → AreKept keep (empty_version ∷ [])
alone keep = record {
  run = (refl, record { number = omega arith; rows = refl; few = λ kind. omega arith; grants = no_grants 0 }, tt);
  some = omega arith;
  few = omega arith;
  oldest = omega arith;
}

pub invariant_of-result : goal.invariant_of-result
invariant_of-result c = rw c.new.ensures (alone c.args.keep)
