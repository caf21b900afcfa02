use Rattle.hub_format.proofs.TableListings.{base_grants_told, base_rows_told, format_told, marks_told, state_told}
use Rattle.hub_format.proofs.laws.items_tell_the_base.Goals as goal

pub returns-clause-format : goal.returns-clause-format
returns-clause-format c = format_told

pub returns-clause-state : goal.returns-clause-state
returns-clause-state c = state_told

pub returns-clause-rows : goal.returns-clause-rows
returns-clause-rows c = base_rows_told

pub returns-clause-grants : goal.returns-clause-grants
returns-clause-grants c = base_grants_told

pub returns-clause-marks : goal.returns-clause-marks
returns-clause-marks c = marks_told
