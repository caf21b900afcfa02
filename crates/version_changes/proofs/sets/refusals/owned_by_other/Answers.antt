use Rattle.std.proofs.Common.{◌≡◌, ◌+◌, List, drop, sym, ap, ◌∙◌, arith, rules}
use Rattle.std.specs.List.{flat_map}
use Rattle.std.specs.Option.{option_or}
use Rattle.roster_types.specs.declared.set.SetPart.{SetPart}
use Rattle.version_changes.proofs.RefusalLemmas.{owned_on}
use Rattle.version_changes.specs.sets.Applying.{owned_by_other}
use Rattle.version_changes.proofs.sets.refusals.owned_by_other.Goals as goal

pub returns-in-Some : goal.returns-in-Some
returns-in-Some c =
    let feed = c.args.set.now.feed in
    let rows = c.args.view.now.rows in
    let parts = c.parts-part-items.result.now in
    let all = ap (λ (ps : List SetPart). owned_by_other feed rows (flat_map (λ part. part.rows) ps)) c.parts-part-items.ensures.parts in
    let told : c.in_ok-fault.field-0 ≡ owned_by_other feed rows c.part-item.result.rows = search rules in
    let on = owned_on feed rows parts c.loop-part.part-index c.part-item.result c.in_ok-fault.field-0 (omega arith) c.part-item.is told in
    sym (sym all ∙ c.loop-part.invariant ∙ on ∙ ap (λ o. option_or o (owned_by_other feed rows (flat_map (λ part. part.rows) (drop (c.loop-part.part-index + 1) parts)))) c.in-Some.is)

pub loop-part-preserved : goal.loop-part-preserved
loop-part-preserved c =
    let feed = c.args.set.now.feed in
    let rows = c.args.view.now.rows in
    let parts = c.parts-part-items.result.now in
    let told : c.in_ok-fault.field-0 ≡ owned_by_other feed rows c.part-item.result.rows = search rules in
    let on = owned_on feed rows parts c.loop-part.part-index c.part-item.result c.in_ok-fault.field-0 (omega arith) c.part-item.is told in
    c.loop-part.invariant ∙ on ∙ ap (λ o. option_or o (owned_by_other feed rows (flat_map (λ part. part.rows) (drop (c.loop-part.part-index + 1) parts)))) c.in_default.is
