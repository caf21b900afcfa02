use Rattle.std.proofs.Common.{refl}
use Rattle.csv.specs.Records.{fields_of}
use Rattle.csv.specs.Reading.{has_failed}
use Rattle.csv_sets.proofs.RecordLaws.{gives}
use Rattle.csv_sets.proofs.records.RecordReader.read.Goals as goal

pub returns-clause-ok : goal.returns-clause-ok
returns-clause-ok c =
    let h = c.in-Ok.ensures in
    let b = c.read_byte_record.new.self in
    let a = c.self.inside.reader in
    rw (← c.self.view_is) (gives a b c.in-Ok.found (fields_of c.read_byte_record.new.row) (has_failed a) refl h.goes (λ e. let i = h.failed e in cc) c.self.invariant (λ r. h.reads r.trim r.ready))
