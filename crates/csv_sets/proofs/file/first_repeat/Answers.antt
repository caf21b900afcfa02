use Rattle.std.proofs.Common.{◌≡◌, ◌∙◌, ap, sym, take}
use Rattle.std.proofs.lemmas.Bool.{not-false, not-true}
use Rattle.csv_sets.specs.Files.{has_id}
use Rattle.csv_sets.proofs.RepeatSteps.{seeks_found, seeks_on, seeks_start}
use Rattle.csv_sets.proofs.file.first_repeat.Goals as goal

pub loop-place-init : goal.loop-place-init
loop-place-init c = seeks_start c.in_ok-ids.ids c.args.rows.now c.in_ok-ids.ensures.empty

pub returns-then-not-branch-clause-first : goal.returns-then-not-branch-clause-first
returns-then-not-branch-clause-first c =
    let same : c.as_str.result.now ≡ c.index-rows-place.result.row.id = c.as_str.ensures.text ∙ c.id.ensures in
    let told = c.loop-place.invariant.lent c.as_str.result.now ∙ ap (λ q. has_id q (take c.loop-place.place c.args.rows.now)) same in
    seeks_found c.index-rows-place.result c.loop-place.invariant c.loop-place-test.true c.index-rows-place.is (sym told ∙ not-false _ (sym c.in_ok-insert.ensures.added ∙ c.if-not-branch.true))

pub loop-place-preserved : goal.loop-place-preserved
loop-place-preserved c =
    let same : c.as_str.result.now ≡ c.index-rows-place.result.row.id = c.as_str.ensures.text ∙ c.id.ensures in
    let told = c.loop-place.invariant.lent c.as_str.result.now ∙ ap (λ q. has_id q (take c.loop-place.place c.args.rows.now)) same in
    seeks_on c.insert.new.self c.as_str.result c.index-rows-place.result c.loop-place.invariant c.loop-place-test.true c.index-rows-place.is same c.in_ok-insert.ensures.updates
    (sym told ∙ not-true _ (sym c.in_ok-insert.ensures.added ∙ c.if-not-branch.false))
