use Rattle.std.proofs.Common.{◌∙◌, ap, arith, cond, find, length, option_copied, sym, Some}
use Rattle.hub_spec.specs.views.Seen.{sees_row}
use Rattle.reference_rules.proofs.Rest.{is_next, rest_at, rest_none, rest_of}
use Rattle.query_pages.proofs.Kept.{find_swap}
use Rattle.query_pages.proofs.seen.rows.next_seen.Goals as goal

pub loop-row-init : goal.loop-row-init
loop-row-init g c =
    let rows = g.R.Rows.rows c.args.known.now.rows.now in
    find_swap (sees_row c.args.known.now.schools.now rows) (is_next c.args.kind (option_copied c.args.after)) rows

pub returns-then-sees_row : goal.returns-then-sees_row
returns-then-sees_row g c =
    let rows = g.R.Rows.rows c.args.known.now.rows.now in
    let row = c.in-Some.row.now in
    let test = sees_row c.args.known.now.schools.now rows in
    let e = rest_at c.args.kind (option_copied c.loop-row.after) rows row c.args.known.now.order (sym c.in-Some.ensures) in
    sym (c.loop-row.invariant ∙ ap (find test) e ∙ ap (λ b. cond b (Some row) (find test (rest_of c.args.kind (Some row.id) rows))) (sym c.sees_row.ensures ∙ c.if-sees_row.true))

pub loop-row-preserved : goal.loop-row-preserved
loop-row-preserved g c =
    let rows = g.R.Rows.rows c.args.known.now.rows.now in
    let row = c.in-Some.row.now in
    let test = sees_row c.args.known.now.schools.now rows in
    let e = rest_at c.args.kind (option_copied c.loop-row.after) rows row c.args.known.now.order (sym c.in-Some.ensures) in
    rw c.id.ensures (c.loop-row.invariant ∙ ap (find test) e ∙ ap (λ b. cond b (Some row) (find test (rest_of c.args.kind (Some row.id) rows))) (sym c.sees_row.ensures ∙ c.if-sees_row.false))

pub loop-row-smaller : goal.loop-row-smaller
loop-row-smaller g c =
    let e = ap length (rest_at c.args.kind (option_copied c.loop-row.after) (g.R.Rows.rows c.args.known.now.rows.now) c.in-Some.row.now c.args.known.now.order (sym c.in-Some.ensures)) in
    rw c.id.ensures (omega (arith, e))

pub returns : goal.returns
returns g c =
    let rows = g.R.Rows.rows c.args.known.now.rows.now in
    sym (c.loop-row.invariant ∙ ap (find (sees_row c.args.known.now.schools.now rows)) (rest_none c.args.kind (option_copied c.loop-row.after) rows (sym c.in_default.ensures)))
