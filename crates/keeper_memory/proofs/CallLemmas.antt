-- One call of a keeper in memory.
use Rattle.std.proofs.Common.{◌≡◌, false, [], ◌∷◌, inl, inr, refl, ap, ◌∙◌}
use Rattle.keeper_memory.specs.Calls.{CallsLead}
use Rattle.keeper_memory.specs.Failures.{FailurePlan, after_begin, after_end, after_read, fails_before}

pub read_leads : (old new : FailurePlan) → new ≡ after_read old → CallsLead old new
read_leads old new is = record { plans = new ∷ []; calls = (inl is, refl) }

pub begun_leads : (old new : FailurePlan) → new ≡ after_begin old → CallsLead old new
begun_leads old new is = record { plans = new ∷ []; calls = (inr (inl is), refl) }

pub ended_leads : (old begun new : FailurePlan) → fails_before old ≡ false → begun ≡ after_begin old → new ≡ after_end begun → CallsLead old new
ended_leads old begun new acts is ends = record { plans = new ∷ []; calls = (inr (inr (acts, ends ∙ ap after_end is)), refl) }
