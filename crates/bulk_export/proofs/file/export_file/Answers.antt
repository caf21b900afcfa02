use Rattle.bulk_export.proofs.AnyResult.{on_ok}
use Rattle.bulk_export.proofs.file.export_file.Goals as goal

pub returns-clause-stood : goal.returns-clause-stood
returns-clause-stood g c = on_ok c.file_text.result _ c.in_ok-rows.ensures.stood
