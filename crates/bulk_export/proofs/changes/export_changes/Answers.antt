use Rattle.bulk_export.proofs.AnyResult.{on_ok}
use Rattle.bulk_export.proofs.changes.export_changes.Goals as goal

pub returns-clause-stood : goal.returns-clause-stood
returns-clause-stood g c = on_ok c.file_text.result _ c.in_ok-held.ensures.stood
