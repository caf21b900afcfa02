-- What a judgement says of the version that it is made of.
use Rattle.std.specs.Prelude.{◌≡◌, ⊤, ℕ, List, Some}
use Rattle.gradebook_core.specs.Outcomes.{check_number}
use Rattle.gradebook_core.specs.declared.judgement.Judgement.{Judgement}
use Rattle.gradebook_core.specs.declared.judgement.Judgement.TheVariants as judgement
use Rattle.hub_spec.specs.rules.Verdicts.{Leads, Refused, Repeat, Same, Verdict}
use Rattle.version_changes.specs.sets.Applying.{LeadsOn}
use Rattle.version_core.specs.Changes.{AreChanges}
use Rattle.version_core.specs.Marks.{mark_at}
use Rattle.version_core.specs.Version.{after}
use Rattle.version_core.specs.declared.change.BaseVersion.{BaseVersion}
use Rattle.version_core.specs.declared.mark.Kept.{Kept}
use Rattle.version_core.specs.declared.mark.MarkRow.{MarkRow}

-- the verdict, where the change of a new version leads on from the newest
abbrev pub verdict_of : BaseVersion → Judgement → Verdict
verdict_of newest (judgement.New change) = Leads (after newest change)
verdict_of newest judgement.Same = Same
verdict_of newest (judgement.Repeat kept) = Repeat kept
verdict_of newest (judgement.Refused failed) = Refused (check_number failed)

-- a new version's change may be added to a table that has this newest version
abbrev pub MayLead : BaseVersion → Judgement → Type 0
MayLead newest (judgement.New change) = LeadsOn newest change
MayLead newest _ = ⊤

-- a write that no mark tells of repeats nothing, and the rows of a new version's change stand in their order
abbrev pub IsNewlyMade : Judgement → Type 0
IsNewlyMade (judgement.New change) = AreChanges change.rows
IsNewlyMade (judgement.Repeat kept) = ⊥
IsNewlyMade _ = ⊤

-- what is repeated is kept under one of these marks; the key of a mark is its caller and its number
pub record IsKeptAmong (marks : List MarkRow) (kept : Kept) : Type 0 where
  pub key : List ℕ × ℕ
  pub held : MarkRow
  pub found : mark_at key marks ≡ Some held
  pub is : kept ≡ held.kept

-- where the judgement repeats something, that is kept under one of these marks
abbrev pub RepeatsOneOf : List MarkRow → Judgement → Type 0
RepeatsOneOf marks (judgement.Repeat kept) = IsKeptAmong marks kept
RepeatsOneOf marks _ = ⊤

-- what is repeated is what this mark keeps
abbrev pub RepeatsAlone : MarkRow → Judgement → Type 0
RepeatsAlone held (judgement.Repeat kept) = kept ≡ held.kept
RepeatsAlone held _ = ⊤
