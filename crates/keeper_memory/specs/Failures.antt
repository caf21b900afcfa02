-- The calls that a keeper in memory has met, and those that are to fail.
use Rattle.std.specs.Prelude.{◌≡◌, ℕ, Bool, true, false, List, [], ◌∷◌, ◌++◌, Result, Err, Ok, ◌==◌}
use Rattle.std.specs.Prelude.{if◌then◌else◌}
use Rattle.std.specs.List.{list_any}
use Rattle.roster_base.specs.Faults.{one_more}
use Rattle.roster_base.specs.declared.keeper.KeeperError.{KeeperError}
use Rattle.roster_base.specs.declared.keeper.KeeperError.TheVariants.{Failed}

-- the numbers, from 1, of the commits that fail before and after they have acted, and of the reads that fail;
-- how many commits and reads came, and how many failed
pub record FailurePlan : Type 0 where
  pub before : List ℕ
  pub after : List ℕ
  pub reads : List ℕ
  pub commits_made : ℕ
  pub reads_made : ℕ
  pub faults : ℕ

-- these calls are to fail, and none came yet
abbrev pub planned : List ℕ → List ℕ → List ℕ → FailurePlan
planned before after reads = record { before = before; after = after; reads = reads; commits_made = 0; reads_made = 0; faults = 0 }

-- the number is listed
abbrev pub is_among : ℕ → List ℕ → Bool
is_among number numbers = list_any (λ n. n == number) numbers

-- the next read is to fail
abbrev pub read_fails : FailurePlan → Bool
read_fails plan = is_among (one_more plan.reads_made) plan.reads

-- the next commit is to fail before it acts
abbrev pub fails_before : FailurePlan → Bool
fails_before plan = is_among (one_more plan.commits_made) plan.before

-- the next commit is to fail after it has acted
abbrev pub fails_after : FailurePlan → Bool
fails_after plan = is_among (one_more plan.commits_made) plan.after

-- a fault is counted where there is one
abbrev pub with_fault : Bool → FailurePlan → FailurePlan
with_fault fails plan = record plan { faults = if fails then one_more plan.faults else plan.faults }

-- the plan after a read
abbrev pub after_read : FailurePlan → FailurePlan
after_read plan = with_fault (read_fails plan) (record plan { reads_made = one_more plan.reads_made })

-- the plan after a commit has come, before it acts
abbrev pub after_begin : FailurePlan → FailurePlan
after_begin plan = with_fault (fails_before plan) (record plan { commits_made = one_more plan.commits_made })

-- the plan after a commit that has acted
abbrev pub after_end : FailurePlan → FailurePlan
after_end plan = with_fault (is_among plan.commits_made plan.after) plan

-- a call that fails answers so, and another is done
abbrev pub FailsIf : Bool → Result (Unit {0}) KeeperError → Type 0
FailsIf fails result = result ≡ (if fails then Err Failed else Ok tt)

-- after a commit: it is counted, and what is listed stays
pub record KeepsPlan (old new : FailurePlan) : Type 0 where
  pub before : new.before ≡ old.before
  pub after : new.after ≡ old.after
  pub reads : new.reads ≡ old.reads
  pub commits : new.commits_made ≡ one_more old.commits_made
  pub loads : new.reads_made ≡ old.reads_made

-- one commit more is listed, which fails behind what it does, or before that
abbrev pub with_listed : Bool → ℕ → FailurePlan → FailurePlan
with_listed true commit plan = record plan { after = plan.after ++ commit ∷ [] }
with_listed false commit plan = record plan { before = plan.before ++ commit ∷ [] }
