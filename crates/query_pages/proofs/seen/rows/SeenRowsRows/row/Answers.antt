use Rattle.std.proofs.Common.{◌∙◌, ap, cond, option_and_then, sym, None, Some}
use Rattle.hub_spec.specs.views.Seen.{sees_row}
use Rattle.roster_types.specs.Keys.{Key, row_key}
use Rattle.roster_values.specs.Kinds.{place_of_kind}
use Rattle.version_core.proofs.LookUps.{if_kept, look_up-filter}
use Rattle.query_pages.proofs.seen.rows.SeenRowsRows.row.Goals as goal

pub returns-in_default : goal.returns-in_default
returns-in_default g c =
    let known = c.self.inside.known in
    let rows = g.R.Rows.rows known.rows.now in
    let test = sees_row c.self.inside.known.schools.now rows in
    let k : Key = (place_of_kind c.args.kind, c.args.id.now) in
    rw (← c.self.view_is) (sym (look_up-filter row_key test k rows known.order ∙ ap (option_and_then (if_kept row_key test)) (sym c.in_default.ensures)))

pub returns-then-sees_row : goal.returns-then-sees_row
returns-then-sees_row g c =
    let known = c.self.inside.known in
    let rows = g.R.Rows.rows known.rows.now in
    let test = sees_row c.self.inside.known.schools.now rows in
    let k : Key = (place_of_kind c.args.kind, c.args.id.now) in
    rw (← c.self.view_is) (sym (look_up-filter row_key test k rows known.order ∙ ap (option_and_then (if_kept row_key test)) (sym c.in-Some.ensures) ∙ ap (λ b. cond b (Some c.in-Some.row.now) None) (sym c.sees_row.ensures ∙ c.if-sees_row.true)))

pub returns-else-sees_row : goal.returns-else-sees_row
returns-else-sees_row g c =
    let known = c.self.inside.known in
    let rows = g.R.Rows.rows known.rows.now in
    let test = sees_row c.self.inside.known.schools.now rows in
    let k : Key = (place_of_kind c.args.kind, c.args.id.now) in
    rw (← c.self.view_is) (sym (look_up-filter row_key test k rows known.order ∙ ap (option_and_then (if_kept row_key test)) (sym c.in-Some.ensures) ∙ ap (λ b. cond b (Some c.in-Some.row.now) None) (sym c.sees_row.ensures ∙ c.if-sees_row.false)))
