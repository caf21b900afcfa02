-- Calls of a keeper in memory, one behind another.
use Rattle.std.specs.Prelude.{◌≡◌, ◌⊎◌, false, List, [], ◌∷◌, ◌++◌}
use Rattle.std.proofs.Common.{refl, subst}
use Rattle.keeper_memory.specs.Failures.{FailurePlan, after_begin, after_end, after_read, fails_before}

-- one call: a read; a commit that failed before it acted, or for which no memory was found; a commit that acted
abbrev pub IsCall : FailurePlan → FailurePlan → Type 0
IsCall old new =
    (new ≡ after_read old) ⊎ (new ≡ after_begin old) ⊎ ((fails_before old ≡ false) × (new ≡ after_end (after_begin old)))

-- calls one behind another, by what the plan is behind each
abbrev pub AreCalls : FailurePlan → List FailurePlan → FailurePlan → Type 0
AreCalls old [] new = new ≡ old
AreCalls old (next ∷ plans) new = IsCall old next × AreCalls next plans new

-- calls lead from one plan to the other: what is listed stays, the numbers go on, and the faults are those of the calls
-- listed between
pub record CallsLead (old new : FailurePlan) : Type 0 where
  pub plans : List FailurePlan
  pub calls : AreCalls old plans new

-- no calls lead from a plan to itself
pub calls_stay : (plan : FailurePlan) → CallsLead plan plan
calls_stay plan = record { plans = []; calls = refl }

calls_behind : (plans more : List FailurePlan) (one two three : FailurePlan) → AreCalls one plans two → AreCalls two more three → AreCalls one (plans ++ more) three
calls_behind [] more one two three before behind = subst (λ (plan : FailurePlan). AreCalls plan more three) before behind
calls_behind (next ∷ plans) more one two three before behind = (before.0, calls_behind plans more next two three before.1 behind)

-- calls to a second plan, and calls on from there to a third, lead to the third
pub calls_on : (one two three : FailurePlan) → CallsLead one two → CallsLead two three → CallsLead one three
calls_on one two three before behind =
    record { plans = before.plans ++ behind.plans; calls = calls_behind before.plans behind.plans one two three before.calls behind.calls }
