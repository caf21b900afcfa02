use Rattle.std.specs.List.{IsDistinct}
use Rattle.made_districts.proofs.files.file_bytes.Goals as goal

pub write_file-requires-clause-differ : goal.write_file-requires-clause-differ
unfolding IsDistinct
write_file-requires-clause-differ c = tt
