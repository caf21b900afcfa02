use Rattle.std.proofs.Common.{None}
use Rattle.keeper_memory.proofs.DistinctIds.{distinct_ids}
use Rattle.bulk_export.proofs.text.file_text.Goals as goal

pub write_file-requires-clause-differ : goal.write_file-requires-clause-differ
write_file-requires-clause-differ c = distinct_ids None c.args.rows.now c.requires.ascend
