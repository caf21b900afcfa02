use Rattle.std.proofs.Common.{◌∙◌, ap, arith, cond, find, length, option_copied, sym, Some}
use Rattle.reference_rules.proofs.Rest.{rest_at, rest_none, rest_of}
use Rattle.version_core.specs.References.{names}
use Rattle.version_core.proofs.Referring.{next_in_rest}
use Rattle.version_core.proofs.references.next_referring.Goals as goal

pub loop-row-init : goal.loop-row-init
loop-row-init g c = next_in_rest c.args.kind c.args.name.now c.args.target.now (option_copied c.args.after) (g.R.Rows.rows c.args.rows.now)

pub returns-then-names : goal.returns-then-names
returns-then-names g c =
    let rows = g.R.Rows.rows c.args.rows.now in
    let row = c.in-Some.row.now in
    let test = names c.args.name.now c.args.target.now in
    let e = rest_at c.args.kind (option_copied c.loop-row.after) rows row c.requires (sym c.in-Some.ensures) in
    sym (c.loop-row.invariant ∙ ap (find test) e ∙ ap (λ b. cond b (Some row) (find test (rest_of c.args.kind (Some row.id) rows))) (sym c.names.ensures ∙ c.if-names.true))

pub loop-row-preserved : goal.loop-row-preserved
loop-row-preserved g c =
    let rows = g.R.Rows.rows c.args.rows.now in
    let row = c.in-Some.row.now in
    let test = names c.args.name.now c.args.target.now in
    let e = rest_at c.args.kind (option_copied c.loop-row.after) rows row c.requires (sym c.in-Some.ensures) in
    rw c.id.ensures (c.loop-row.invariant ∙ ap (find test) e ∙ ap (λ b. cond b (Some row) (find test (rest_of c.args.kind (Some row.id) rows))) (sym c.names.ensures ∙ c.if-names.false))

pub loop-row-smaller : goal.loop-row-smaller
loop-row-smaller g c =
    let e = ap length (rest_at c.args.kind (option_copied c.loop-row.after) (g.R.Rows.rows c.args.rows.now) c.in-Some.row.now c.requires (sym c.in-Some.ensures)) in
    rw c.id.ensures (omega (arith, e))

pub returns : goal.returns
returns g c =
    sym (c.loop-row.invariant ∙ ap (find (names c.args.name.now c.args.target.now)) (rest_none c.args.kind (option_copied c.loop-row.after) (g.R.Rows.rows c.args.rows.now) (sym c.in_default.ensures)))
