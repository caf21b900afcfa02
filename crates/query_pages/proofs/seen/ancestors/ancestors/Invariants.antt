use Rattle.std.proofs.Common.{◌≡◌, ◌||◌, ℕ, List, drop}
use Rattle.std.specs.List.{list_any}
use Rattle.hub_spec.specs.views.Seen.{leads_up}
use Rattle.query_pages.specs.Ancestors.{IsClosed, has_id}
use Rattle.query_pages.proofs.seen.ancestors.ancestors.Given as goal

-- those to which the schools so far lead are in, and those to which the others lead are what is missing
abbrev pub invariant-loop-school : goal.invariant-loop-school
invariant-loop-school g l =
    let rows = g.R.Rows.rows l.rows in
    record {
      closed : IsClosed rows l.ids;
      left : (id : List ℕ) → (has_id l.ids id || list_any (leads_up rows id l.turns) (drop l.school-index l.schools)) ≡ list_any (leads_up rows id l.turns) l.schools;
    }
