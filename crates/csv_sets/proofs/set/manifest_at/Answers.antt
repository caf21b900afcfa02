use Rattle.csv_sets.proofs.SetSteps.{manifest_read, some_listed}
use Rattle.csv_sets.proofs.set.manifest_at.Goals as goal

pub returns-clause-listed : goal.returns-clause-listed
returns-clause-listed g c =
    manifest_read c.args.dir.now (g.F.Folder.files c.args.folder.now) (g.F.Folder.faults c.args.folder.now) (g.F.Folder.faults c.read_bytes.new.folder) c.in_ok-bytes.bytes c.listed_in.result c.in_ok-bytes.ensures.bytes
    (rw c.as_slice.ensures at c.listed_in.ensures.listed)

pub returns-clause-some : goal.returns-clause-some
returns-clause-some g c = some_listed _ c.listed_in.result c.listed_in.ensures.listed
