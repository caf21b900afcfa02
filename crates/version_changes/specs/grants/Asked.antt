-- Answers to what an outcome is asked for.
use Rattle.std.specs.Prelude.{⊤, Option, None, Some, Result, Ok, Err}
use Rattle.roster_base.specs.declared.refusal.Refusal.{Refusal}
use Rattle.roster_base.specs.declared.refusal.Refusal.TheVariants as refusal
use Rattle.version_changes.specs.sets.Applying.{Leads, Outcome, Refuses, Unchanged}
use Rattle.version_changes.specs.declared.sets.publish_fault.PublishFault.{PublishFault}
use Rattle.version_core.specs.Version.{after}
use Rattle.version_core.specs.declared.change.BaseVersion.{BaseVersion}
use Rattle.version_core.specs.declared.change.Change.{Change}

-- what is due of a version is an outcome that is asked for, memory aside
abbrev pub AnswersBy : (Outcome → Type 0) → BaseVersion → Result (Option Change) (Refusal PublishFault) → Type 0
AnswersBy asks version (Ok None) = asks Unchanged
AnswersBy asks version (Ok (Some change)) = asks (Leads (after version change))
AnswersBy asks version (Err (refusal.Fault fault)) = asks (Refuses fault)
AnswersBy asks version (Err refusal.NoMemory) = ⊤
