use Rattle.std.proofs.Common.{◌≡◌, ◌-◌, ◌∷◌, ℕ, Some, slice_get, ap, sym, subst, ◌∙◌}
use Rattle.version_core.proofs.SpanLemmas.{rows_of_version}
use Rattle.version_core.specs.History.{ArePasts, pasts_of, rows_at}
use Rattle.version_core.specs.VersionLog.{kept_of}
use Rattle.version_core.specs.declared.change.BaseVersion.{BaseVersion}
use Rattle.version_core.specs.declared.version_log.VersionLog.TheInside.{Inside}
use Rattle.version_core.proofs.version_log.VersionLog.span.Goals as goal

-- a version that is found among those of a log has the rows of the log's histories
read : (log : Inside) (version : BaseVersion) (place n : ℕ) → slice_get (kept_of log) place ≡ Some version → version.number ≡ n → version.rows ≡ rows_at n (pasts_of log.histories.items)
read log version place n at number = rows_of_version (pasts_of log.histories.items) log.grants.items log.number (log.moment ∷ log.moments.items) place version at ∙ ap (λ n. rows_at n (pasts_of log.histories.items)) number

pub invariant_of-result : goal.invariant_of-result
invariant_of-result c =
    let log = c.self.inside in
    let same = ap pasts_of c.deref.ensures.value in
    record {
      pasts = subst ArePasts (sym same) c.self.invariant.pasts;
      first = read log c.rows_at.result (c.args.before - log.number) c.args.before (rw (← c.self.view_is) at c.rows_at.ensures.at) c.rows_at.ensures.number ∙ ap (rows_at c.args.before) (sym same);
      last = read log c.rows_at-2.result (c.args.after - log.number) c.args.after (rw (← c.self.view_is) at c.rows_at-2.ensures.at) c.rows_at-2.ensures.number ∙ ap (rows_at c.args.after) (sym same);
      order = c.requires.order;
    }
