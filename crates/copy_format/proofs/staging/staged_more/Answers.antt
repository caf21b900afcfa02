use Rattle.std.proofs.Common.{rules, ◌≡◌, ◌+◌, length}
use Rattle.copy_format.proofs.PageLemmas.{more_staged}
use Rattle.copy_format.proofs.staging.staged_more.Goals as goal

pub returns-clause-stage : goal.returns-clause-stage
returns-clause-stage c s is =
    let count : c.in-Some.count ≡ c.args.stage.staged + length c.args.rows.now = search rules in
    rw c.token.view_is (more_staged s c.args.stage c.args.rows.now c.args.total c.in-Some.count c.in_ok-last_id.field-0 c.args.done is c.if-done.false count c.in_ok-last_id.ensures)
