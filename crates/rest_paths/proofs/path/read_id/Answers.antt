use Rattle.std.proofs.Common.{◌≡◌, ◌∙◌, ap, subst, sym, true, IsUtf8}
use Rattle.filter_grammar.specs.Escapes.{has_whole_escapes}
use Rattle.rest_paths.proofs.IdLemmas.{broken_escape, broken_text, read_is, whole_id}
use Rattle.percent_encoding.specs.Percent.{percent_decode}
use Rattle.rest_paths.proofs.path.read_id.Goals as goal

pub returns-then-not-has_whole_escapes : goal.returns-then-not-has_whole_escapes
returns-then-not-has_whole_escapes c =
    sym (broken_escape c.args.segment.now (ap has_whole_escapes (sym c.as_bytes.ensures.value) ∙ sym c.has_whole_escapes.ensures ∙ c.if-not-has_whole_escapes.true))

pub returns-in-Ok : goal.returns-in-Ok
returns-in-Ok c =
    let whole : has_whole_escapes c.args.segment.now ≡ true = ap has_whole_escapes (sym c.as_bytes.ensures.value) ∙ sym c.has_whole_escapes.ensures ∙ c.if-not-has_whole_escapes.false in
    let decoded = c.percent_decode.ensures.bytes ∙ ap percent_decode c.as_bytes-2.ensures.value in
    read_is c.args.segment.now c.deref.result.now c.read.result
    (whole_id c.args.segment.now c.deref.result.now whole (subst IsUtf8 decoded c.in-Ok.ensures.ok_only_if_utf8) (c.deref.ensures.value ∙ c.in-Ok.ensures.value ∙ decoded))
    c.read.ensures

pub returns-in-Err-Utf8 : goal.returns-in-Err-Utf8
returns-in-Err-Utf8 c =
    let decoded = c.percent_decode.ensures.bytes ∙ ap percent_decode c.as_bytes-2.ensures.value in
    sym (broken_text c.args.segment.now (λ good. let failed = c.in-Err-Utf8.ensures.utf8 (subst IsUtf8 (sym decoded) good) in cc (failed, c.in-Err-Utf8.field-0-is)))
