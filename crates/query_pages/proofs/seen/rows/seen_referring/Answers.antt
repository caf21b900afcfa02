use Rattle.std.proofs.Common.{◌&&◌, ◌∙◌, ap, arith, cond, find, length, option_copied, sym, Some}
use Rattle.hub_spec.specs.views.Seen.{sees_row}
use Rattle.roster_types.specs.Keys.{is_after}
use Rattle.query_pages.proofs.Kept.{find_swap}
use Rattle.version_core.specs.References.{refers}
use Rattle.version_core.proofs.Referring.{all_in_rest, referring_at, referring_none, referring_rest}
use Rattle.query_pages.proofs.seen.rows.seen_referring.Goals as goal

pub loop-row-init : goal.loop-row-init
loop-row-init g c =
    let rows = g.R.Rows.rows c.args.known.now.rows.now in
    let after = option_copied c.args.after in
    let test = sees_row c.args.known.now.schools.now rows in
    find_swap test (λ row. refers c.args.kind c.args.name.now c.args.target.now row && is_after after row.id) rows
    ∙ ap (find test) (all_in_rest c.args.kind c.args.name.now c.args.target.now after rows)

pub returns-then-sees_row : goal.returns-then-sees_row
returns-then-sees_row g c =
    let rows = g.R.Rows.rows c.args.known.now.rows.now in
    let row = c.in-Some.row.now in
    let test = sees_row c.args.known.now.schools.now rows in
    let e = referring_at c.args.kind c.args.name.now c.args.target.now (option_copied c.loop-row.after) rows row c.in-Some.ensures.order (sym c.in-Some.ensures.next) in
    sym (c.loop-row.invariant ∙ ap (find test) e ∙ ap (λ b. cond b (Some row) (find test (referring_rest c.args.kind c.args.name.now c.args.target.now (Some row.id) rows))) (sym c.sees_row.ensures ∙ c.if-sees_row.true))

pub loop-row-preserved : goal.loop-row-preserved
loop-row-preserved g c =
    let rows = g.R.Rows.rows c.args.known.now.rows.now in
    let row = c.in-Some.row.now in
    let test = sees_row c.args.known.now.schools.now rows in
    let e = referring_at c.args.kind c.args.name.now c.args.target.now (option_copied c.loop-row.after) rows row c.in-Some.ensures.order (sym c.in-Some.ensures.next) in
    rw c.id.ensures (c.loop-row.invariant ∙ ap (find test) e ∙ ap (λ b. cond b (Some row) (find test (referring_rest c.args.kind c.args.name.now c.args.target.now (Some row.id) rows))) (sym c.sees_row.ensures ∙ c.if-sees_row.false))

pub loop-row-smaller : goal.loop-row-smaller
loop-row-smaller g c =
    let rows = g.R.Rows.rows c.args.known.now.rows.now in
    let e = ap length (referring_at c.args.kind c.args.name.now c.args.target.now (option_copied c.loop-row.after) rows c.in-Some.row.now c.in-Some.ensures.order (sym c.in-Some.ensures.next)) in
    rw c.id.ensures (omega (arith, e))

pub returns : goal.returns
returns g c =
    let rows = g.R.Rows.rows c.args.known.now.rows.now in
    sym (c.loop-row.invariant ∙ ap (find (sees_row c.args.known.now.schools.now rows)) (referring_none c.args.kind c.args.name.now c.args.target.now (option_copied c.loop-row.after) rows (sym c.in_default.ensures.next)))
