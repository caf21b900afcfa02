use Rattle.std.proofs.Common.{◌≡◌, drop, sym, ap, ◌∙◌}
use Rattle.hub_format.specs.Format.{Entry}
use Rattle.hub_format.specs.Pieces.{caller_label, number_size}
use Rattle.hub_format.proofs.GrantReading.{grant_read}
use Rattle.hub_format.proofs.read_grants.grant_of.Goals as goal

pub returns-in-Some-3-clause-found : goal.returns-in-Some-3-clause-found
returns-in-Some-3-clause-found c version row fits same =
    let caller = c.in-Some-2.caller in
    let grant = c.in-Some-3.grant in
    let name : caller ≡ c.in-Some.caller.now = rw c.in-Some-2.is at c.in_ok-caller.ensures in
    let body = rw c.in-Some-3.is at c.in_ok-grant.ensures.grant in
    grant_read version (record { caller = caller; grant = grant }) row fits
    (ap caller_label name ∙ sym c.in-Some.ensures ∙ c.behind.ensures ∙ ap (drop number_size) (c.as_slice.ensures ∙ ap (λ (e : Entry). e.0) same))
    (sym body ∙ c.as_slice-2.ensures ∙ ap (λ (e : Entry). e.1) same)
    (rw c.in-Some-3.is at c.in_ok-grant.ensures.token) (rw c.in-Some-3.is at c.in_ok-grant.ensures.schools) (rw c.in-Some-3.is at c.in_ok-grant.ensures.since)

pub returns-in-Some-3-clause-whole : goal.returns-in-Some-3-clause-whole
returns-in-Some-3-clause-whole c =
    let name : c.in-Some-2.caller ≡ c.in-Some.caller.now = rw c.in-Some-2.is at c.in_ok-caller.ensures in
    let label = ap caller_label name ∙ sym c.in-Some.ensures ∙ c.behind.ensures ∙ ap (drop number_size) c.as_slice.ensures in
    let body = sym (rw c.in-Some-3.is at c.in_ok-grant.ensures.grant) ∙ c.as_slice-2.ensures in
    sym (λ i. (label i, body i))
