use Rattle.std.proofs.Common.{◌<◌, arith, ap, get_or, length, ◌∙◌}
use Rattle.keeper_memory.specs.copy.Copies.{Copy}
use Rattle.roster_values.specs.Kinds.{all_kinds}
use Rattle.roster_values.specs.declared.kind.Kind.TheVariants.{Orgs}
use Rattle.script_runs.proofs.Making.{item_on}
use Rattle.script_runs.specs.Makings.{count_line, schools_line}
use Rattle.script_runs.proofs.make.summary.Goals as goal

pub loop-kind-preserved : goal.loop-kind-preserved
loop-kind-preserved c =
    let within : c.loop-kind.kind-index < length all_kinds = omega arith in
    record {
      link = c.in_ok-text-2.ensures.link ∙ c.loop-kind.invariant.link;
      copy = c.in_ok-text-2.ensures.copy ∙ c.loop-kind.invariant.copy;
      text = item_on (count_line c.args.play.now.copy.copy) all_kinds c.loop-kind.kind-index Orgs (schools_line c.args.count) _ _ _ within c.in_ok-text-2.ensures.text c.loop-kind.invariant.text
          (ap (λ (copy : Copy). count_line copy (get_or all_kinds c.loop-kind.kind-index Orgs)) c.loop-kind.invariant.copy);
    }
