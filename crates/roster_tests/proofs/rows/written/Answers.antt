use Rattle.std.proofs.Common.{◌≡◌}
use Rattle.std.proofs.lemmas.Simd.{map-map}
use Rattle.std.proofs.lemmas.List.Elements.{All-map}
use Rattle.roster_types.specs.Records.{Record}
use Rattle.roster_types.specs.declared.set_row.SetRow.{SetRow}
use Rattle.roster_tests.proofs.rows.written.Goals as goal

pub write_file-bytes-requires-clause-kinds : goal.write_file-bytes-requires-clause-kinds
write_file-bytes-requires-clause-kinds c =
    rw (c.as_slice.ensures.value, c.in_ok-rows.ensures) (All-map (λ (r : Record). r.kind ≡ c.args.kind) (λ (r : SetRow). r.row) c.in_ok-read.read.items c.in_ok-read.ensures.kinds)

pub write_file-bytes-requires-clause-differ : goal.write_file-bytes-requires-clause-differ
write_file-bytes-requires-clause-differ c = rw (c.as_slice.ensures.value, c.in_ok-rows.ensures, map-map) c.in_ok-read.ensures.differ
