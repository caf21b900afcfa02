-- A verdict by what is held under the mark, and what a new version's change keeps.
use Rattle.std.proofs.Common.{◌≡◌, ℕ, ℤ, List, Option, None, Some, Result, Ok, Err, IfOk, option_and_then, sym, ap}
use Rattle.std.proofs.Common.{subst, ◌∙◌}
use Rattle.gradebook_core.specs.Judging.{IsNewlyMade, MayLead, RepeatsAlone, RepeatsOneOf, verdict_of}
use Rattle.gradebook_core.specs.declared.judgement.Judgement.{Judgement}
use Rattle.gradebook_core.specs.declared.judgement.Judgement.TheVariants as judgement
use Rattle.hub_spec.proofs.Judging.{judged_led}
use Rattle.hub_spec.specs.rules.Verdicts.{Judged, Judges, NewJudged, Verdict, held_mark, newest_in}
use Rattle.roster_base.specs.declared.memory.NoMemory.{NoMemory}
use Rattle.version_core.specs.HubStates.{HubState}
use Rattle.version_core.specs.Marks.{mark_at}
use Rattle.version_core.specs.Version.{IsVersion, after}
use Rattle.version_core.specs.declared.change.BaseVersion.{BaseVersion}
use Rattle.version_core.specs.declared.grant_row.GrantRow.{GrantRow}
use Rattle.version_core.specs.declared.mark.MarkRow.{MarkRow}
use Rattle.version_core.specs.declared.mark.Write.{Write}

-- a verdict by the newest version and the marks is that at each state which has them
pub judges : (state : HubState) (newest : BaseVersion) (marks : List MarkRow) (by : GrantRow) (mark : Option ℕ) (write : Write) (at : ℤ) (held : Option MarkRow)
    → newest_in state ≡ newest → state.marks ≡ marks → held ≡ option_and_then (λ number. mark_at (by.caller, number) marks) mark
    → (verdict : Verdict) → Judged held newest by write at verdict → Judges state by mark write at verdict
unfolding Judges
judges state newest marks by mark write at held same_newest same_marks found verdict judged =
    let here : held ≡ held_mark state by.caller mark = found ∙ ap (λ ms. option_and_then (λ number. mark_at (by.caller, number) ms) mark) (sym same_marks) in
    subst (λ version. Judged (held_mark state by.caller mark) version by write at verdict) (sym same_newest) (subst (λ h. Judged h newest by write at verdict) here judged)

pub each : (P Q : Judgement → Type 0) (r : Result Judgement NoMemory) → ((made : Judgement) → P made → Q made) → IfOk r P → IfOk r Q
each P Q (Ok made) from is = from made is
each P Q (Err e) from is = tt

pub both : (P Q R : Judgement → Type 0) (r : Result Judgement NoMemory) → ((made : Judgement) → P made → Q made → R made) → IfOk r P → IfOk r Q → IfOk r R
both P Q R (Ok made) from p q = from made p q
both P Q R (Err e) from p q = tt

-- the change of a write that no mark tells of may be added
pub may_lead : (newest : BaseVersion) → IsVersion newest → (by : GrantRow) (write : Write) (at : ℤ) (made : Judgement)
    → NewJudged write.delete newest by write at (verdict_of newest made) → IsNewlyMade made → MayLead newest made
may_lead newest is by write at (judgement.New change) judged order =
    let next = judged_led newest is at by write (after newest change) None judged in
    record { next = next.number; version = next.version; changes = order }
may_lead newest is by write at judgement.Same judged order = tt
may_lead newest is by write at (judgement.Repeat kept) judged order = absurd order
may_lead newest is by write at (judgement.Refused n) judged order = tt

-- what the write of a held mark repeats is kept under one of the marks
pub repeats_held : (marks : List MarkRow) (caller : List ℕ) (mark : Option ℕ) (held : MarkRow) → Some held ≡ option_and_then (λ number. mark_at (caller, number) marks) mark
    → (made : Judgement) → RepeatsAlone held made → RepeatsOneOf marks made
repeats_held marks caller None held found made alone = let none : Some held ≡ None = found in absurd (cc)
repeats_held marks caller (Some number) held found (judgement.New change) alone = tt
repeats_held marks caller (Some number) held found judgement.Same alone = tt
repeats_held marks caller (Some number) held found (judgement.Repeat kept) alone = record { key = (caller, number); held = held; found = sym found; is = alone }
repeats_held marks caller (Some number) held found (judgement.Refused failed) alone = tt

-- and a write that no mark tells of repeats nothing
pub repeats_none : (marks : List MarkRow) (made : Judgement) → IsNewlyMade made → RepeatsOneOf marks made
repeats_none marks (judgement.Repeat kept) new = absurd new
repeats_none marks other new = tt
