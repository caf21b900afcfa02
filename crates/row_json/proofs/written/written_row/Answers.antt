use Rattle.std.proofs.Common.{◌≡◌, ◌∙◌, refl, string_bytes, sym}
use Rattle.row_json.specs.Reading.{row_of}
use Rattle.row_json.proofs.written.written_row.Goals as goal

pub returns-clause-row : goal.returns-clause-row
returns-clause-row c =
    let kind : c.in-Some.row.kind ≡ c.args.kind = rw c.in-Some.is at c.in_ok-row.ensures in
    let own : string_bytes c.in_ok-own.own ≡ c.args.bytes.now = c.is_text.ensures c.if-not-is_text.false ∙ c.in-Ok.ensures.cases.0 in
    sym (λ j. row_of (kind j) (own j)) ∙ c.in_ok-own.ensures.back refl
