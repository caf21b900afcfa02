use Rattle.bulk_export.proofs.FolderLemmas.{read_back}
use Rattle.bulk_export.proofs.laws.an_exported_folder_is_read_back.Goals as goal

pub returns : goal.returns
returns c mode dir feed files rows folder = read_back mode dir files rows folder feed
