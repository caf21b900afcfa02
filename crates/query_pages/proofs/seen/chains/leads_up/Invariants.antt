use Rattle.std.proofs.Common.{◌≡◌, Some, false}
use Rattle.hub_spec.specs.views.Seen.{leads_up}
use Rattle.reference_rules.specs.Parents.{nth_parent}
use Rattle.roster_values.specs.declared.kind.Kind.TheVariants.{Orgs}
use Rattle.query_pages.proofs.seen.chains.leads_up.Given as goal

-- the chain has come so far, and hasn't reached the id
abbrev pub invariant-loop-turn : goal.invariant-loop-turn
invariant-loop-turn g l = record {
  follows : nth_parent (g.R.Rows.rows l.rows) Orgs l.school l._turn ≡ Some l.current;
  not_yet : leads_up (g.R.Rows.rows l.rows) l.id l._turn l.school ≡ false;
}
