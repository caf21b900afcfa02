use Rattle.std.proofs.Common.{◌≤◌, get_or, refl, ◌∙◌, arith}
use Rattle.roster_types.specs.Keys.{count_of}
use Rattle.roster_values.specs.declared.kind.Kind.TheVariants.{Orgs}
use Rattle.version_changes.proofs.RefusalLemmas.{too_many_on}
use Rattle.version_core.specs.Version.{row_limit}
use Rattle.version_changes.proofs.sets.refusals.too_many.Goals as goal

pub loop-kind-preserved : goal.loop-kind-preserved
loop-kind-preserved g c =
    let rows = g.R.Rows.rows c.args.rows.now in
    let kinds = c.args.kinds.now in
    let few : count_of (get_or kinds c.loop-kind.kind-index Orgs) rows ≤ row_limit = omega (arith, c.count-count.ensures.count, c.if-count-gt-ROW_LIMIT.false) in
    c.loop-kind.invariant ∙ too_many_on rows kinds c.loop-kind.kind-index (get_or kinds c.loop-kind.kind-index Orgs) Orgs c.loop-kind-test.true refl few
