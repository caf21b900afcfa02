use Rattle.std.proofs.Common.{refl, sym, ◌∙◌}
use Rattle.hub_spec.specs.requests.Requests.{wanted_by}
use Rattle.rest_provider.proofs.WriteLemmas.{behind_caller}
use Rattle.version_core.specs.declared.grant_row.GrantRow.{GrantRow}
use Rattle.rest_provider.proofs.writes.asked_at.Goals as goal

pub returns-in-Err : goal.returns-in-Err
returns-in-Err c = λ state is.
    let by : GrantRow = record { caller = c.in_ok-caller.caller.now; grant = c.in_ok-caller.grant.now } in
    behind_caller state (wanted_by c.args.request.now) c.args.path.now by c.in-Err.stop (c.in_ok-caller.ensures state (is.reads.newest ∙ sym c.newest_rows-newest.ensures.newest))
    (c.in-Err.ensures state by (is.newest ∙ sym c.newest.ensures) refl)
