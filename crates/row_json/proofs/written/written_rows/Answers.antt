use Rattle.std.proofs.Common.{◌≡◌, ◌∙◌, ap, refl, string_bytes, sym}
use Rattle.std.specs.List.{All}
use Rattle.roster_types.specs.Records.{Record}
use Rattle.row_json.specs.Reading.{rows_of}
use Rattle.row_json.proofs.written.written_rows.Goals as goal

pub returns-clause-rows : goal.returns-clause-rows
returns-clause-rows c =
    let kinds : All (λ (r : Record). r.kind ≡ c.args.kind) c.in-Some.rows.items = rw c.in-Some.is at c.in_ok-rows.ensures in
    let own : string_bytes c.in_ok-own.own ≡ c.args.bytes.now = c.is_text.ensures c.if-not-is_text.false ∙ c.in-Ok.ensures.cases.0 in
    sym (ap (rows_of c.args.kind) own) ∙ rw c.as_slice.ensures.value at (c.in_ok-own.ensures.back refl (rw c.as_slice.ensures.value kinds))
