-- Ends of exports.
use Rattle.std.proofs.Common.{◌≡◌, ℕ, List, Ok, Err, refl, inl, inr}
use Rattle.bulk_export.specs.Exports.{CauseOf}
use Rattle.bulk_export.specs.declared.error.ExportError.{ExportError}
use Rattle.bulk_export.specs.declared.error.ExportError.TheVariants as error
use Rattle.exchange_link.specs.Between.{CopyRun}
use Rattle.keeper_memory.specs.copy.Copies.{Copy}
use Rattle.roster_base.specs.Faults.{Rose}
use Rattle.roster_values.specs.declared.kind.Kind.{Kind}
use Rattle.hub_commands.specs.ConsumerAnswers.{CopyStays}
use Rattle.hub_commands.specs.ExportAnswers.{ExportEnds, end_of_export, file_answer}

module _ (IsText : (Copy → Type 0) → List ℕ → Type 0) (HasBytes : Copy → ℕ → Type 0) (kind : Kind) (copy : CopyRun) (stays : CopyStays copy) where
  pub export-done : (bytes : List ℕ) → IsText copy.stands bytes → copy.faults_now ≡ copy.faults_before → ExportEnds IsText HasBytes kind copy (file_answer (Ok bytes))
  export-done bytes text stood = (stays, inl (inl (refl, text, stood)))

  pub export-stopped : (e : ExportError) → CauseOf copy.stands (Rose copy.faults_before copy.faults_now) HasBytes e → ExportEnds IsText HasBytes kind copy (file_answer (Err (end_of_export kind e)))
  export-stopped error.NothingHeld cause = (stays, inr (refl, cause))
  export-stopped error.KeeperFault cause = (stays, inl (inr (inl (refl, refl, cause))))
  export-stopped (error.TooLarge bytes) cause = (stays, inr (refl, (refl, cause.0, cause.1)))
  export-stopped error.NoMemory cause = (stays, inl (inr (inr (refl, refl))))
