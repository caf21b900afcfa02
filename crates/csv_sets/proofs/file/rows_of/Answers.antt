use Rattle.csv.specs.Records.{AllText, fields_of}
use Rattle.csv_sets.proofs.FileSteps.{header_places}
use Rattle.csv_sets.proofs.file.rows_of.Goals as goal

pub read-requires-then-not-branch : goal.read-requires-then-not-branch
unfolding AllText
read-requires-then-not-branch c = rw c.new.ensures.fields tt

pub rows_under-requires-clause-places : goal.rows_under-requires-clause-places
rows_under-requires-clause-places c = header_places c.args.kind c.args.mode (fields_of c.read.new.cells) c.in_ok-header.header c.in_ok-header.ensures
