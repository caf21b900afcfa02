use Rattle.std.proofs.Common.{sym}
use Rattle.csv.proofs.RecordFacts.{text-of}
use Rattle.csv.specs.Records.{fields_of}
use Rattle.csv_sets.proofs.cells.cell_at.Goals as goal

pub from_utf8_unchecked-requires : goal.from_utf8_unchecked-requires
from_utf8_unchecked-requires c =
    text-of (fields_of c.args.cells.now) c.in-Some.place c.in-Some-get.bytes.now c.requires (sym c.in-Some-get.ensures.value)
