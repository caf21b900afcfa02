-- Counts of faults of the outside.
use Rattle.std.specs.Prelude.{◌≡◌, ◌+◌, ◌-◌, ◌^◌, ◌≤◌, ℕ, min, Result, Ok, Err, OnOk, OnErr}
use Rattle.roster_base.specs.declared.keeper.KeeperError.{KeeperError}
use Rattle.roster_base.specs.declared.keeper.KeeperError.TheVariants as keeper

-- one more, up to the end of u64
abbrev pub one_more : ℕ → ℕ
one_more n = min (n + 1) (2 ^ 64 - 1)

-- a count rose, or stands at the end of its type
abbrev pub Rose : ℕ → ℕ → Type 0
Rose before now = one_more before ≤ now

-- the cause of a call's answer: an error comes only where the count rose, and the count rises only with an error
pub record HasCause {T E : Type 0} (before now : ℕ) (result : Result T E) : Type 0 where
  pub later : before ≤ now
  pub failed : OnErr result (Rose before now)
  pub quiet : OnOk result (now ≡ before)

-- a store that gives this error counts a failure once, and want of memory not at all; a count at the end of its type
-- stays there
abbrev pub CountsError : ℕ → ℕ → KeeperError → Type 0
CountsError before now keeper.Failed = now ≡ one_more before
CountsError before now keeper.NoMemory = now ≡ before

-- the same of a call's answer: success counts nothing
abbrev pub CountsFailure : {T : Type 0} → ℕ → ℕ → Result T KeeperError → Type 0
CountsFailure before now (Ok x) = now ≡ before
CountsFailure before now (Err e) = CountsError before now e
