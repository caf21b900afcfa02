use Rattle.std.proofs.Common.{◌∙◌, ap, sym}
use Rattle.std.proofs.lemmas.List.{get_or_default}
use Rattle.std.specs.List.{list_any}
use Rattle.roster_values.specs.Kinds.{place_of_kind}
use Rattle.version_core.specs.RefIndex.{is_entry_of}
use Rattle.version_core.proofs.SayingLemmas.{any_at}
use Rattle.version_core.proofs.ref_index.one_has_entry.Goals as goal

pub returns-then-has_entry : goal.returns-then-has_entry
returns-then-has_entry c = λ _.
    let said = is_entry_of (place_of_kind c.args.kind, c.args.place, c.args.target.now) c.args.id.now in
    let run = c.run-item.result in
    any_at (list_any said) c.args.runs.now c.loop-run.run-index c.loop-run-test.true
    (λ d. ap (list_any said) (sym (c.run-item.is ∙ get_or_default c.args.runs.now c.loop-run.run-index run d c.loop-run-test.true)) ∙ c.has_entry.ensures c.if-has_entry.true)
