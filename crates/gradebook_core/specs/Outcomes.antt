-- The numbers of checks and of what writes come to.
use Rattle.std.specs.Prelude.{ℕ}
use Rattle.gradebook_core.specs.declared.outcome.Check.{Check}
use Rattle.gradebook_core.specs.declared.outcome.Check.TheVariants as check
use Rattle.gradebook_core.specs.declared.outcome.Outcome.{Outcome}
use Rattle.gradebook_core.specs.declared.outcome.Outcome.TheVariants as outcome
use Rattle.version_core.specs.Outcomes.{bad_body_outcome, deleted_outcome, last_version_outcome, mark_taken_outcome}
use Rattle.version_core.specs.Outcomes.{no_such_object_outcome, outside_grant_outcome, owned_by_another_outcome}
use Rattle.version_core.specs.Outcomes.{stored_outcome, too_many_rows_outcome, wrong_type_outcome}

-- the number of a check
abbrev pub check_number : Check → ℕ
check_number check.MarkOfAnotherWrite = mark_taken_outcome
check_number check.BadBody = bad_body_outcome
check_number check.NoSuchObject = no_such_object_outcome
check_number check.OwnedByAnother = owned_by_another_outcome
check_number check.ReferenceOutsideGrant = outside_grant_outcome
check_number check.ReferenceOfWrongType = wrong_type_outcome
check_number check.TooManyRows = too_many_rows_outcome
check_number check.LastVersion = last_version_outcome

-- the number by which an outcome is kept
abbrev pub outcome_number : Outcome → ℕ
outcome_number outcome.Stored = stored_outcome
outcome_number (outcome.Refused failed) = check_number failed
outcome_number outcome.Deleted = deleted_outcome
