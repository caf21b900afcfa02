use Rattle.std.proofs.Common.{◌≡◌, ℕ, List, sym, ap, subst, ◌∙◌, option_and_then}
use Rattle.std.specs.Result.{IfOk}
use Rattle.roster_types.specs.Keys.{count_of}
use Rattle.reference_rules.specs.Parents.{is_in_cycle, parent_in, parent_of}
use Rattle.reference_rules.proofs.CycleLemmas.{not_without_parent}
use Rattle.reference_rules.proofs.cycles.is_in_cycle.Goals as goal

pub returns-in_default-clause-value : goal.returns-in_default-clause-value
returns-in_default-clause-value g c =
    sym (not_without_parent (g.R.Rows.rows c.args.rows.now) c.args.row.now.kind c.args.row.now.id (ap (option_and_then parent_in) c.requires.row ∙ sym c.in_default.ensures))

pub learn-requires-clause-turns : goal.learn-requires-clause-turns
learn-requires-clause-turns g c = c.requires.turns ∙ ap (λ kind. count_of kind (g.R.Rows.rows c.args.rows.now)) (sym c.kind-kind.ensures.kind)

pub known_below-requires-clause-parent : goal.known_below-requires-clause-parent
known_below-requires-clause-parent g c =
    ap (parent_of (g.R.Rows.rows c.args.rows.now) c.kind-kind.result) c.id.ensures ∙ ap (λ kind. parent_of (g.R.Rows.rows c.args.rows.now) kind c.args.row.now.id) c.kind-kind.ensures.kind
    ∙ ap (option_and_then parent_in) c.requires.row ∙ sym c.in-Some.ensures

pub returns-clause-value : goal.returns-clause-value
returns-clause-value g c =
    let rows = g.R.Rows.rows c.args.rows.now in
    subst (λ kind. IfOk c.known_below.result (λ known. known ≡ is_in_cycle rows kind c.args.row.now.id)) c.kind-kind.ensures.kind
    (subst (λ (id : List ℕ). IfOk c.known_below.result (λ known. known ≡ is_in_cycle rows c.kind-kind.result id)) c.id.ensures c.known_below.ensures.value)
