use Rattle.std.proofs.Common.{rules, ◌≡◌, ◌<◌, ◌^◌, ◌∷◌, ◌++◌, sym, ap, subst, ◌∙◌}
use Rattle.item_maps.specs.Edits.{entry_of}
use Rattle.hub_format.specs.Pieces.{IsSized, mark_label, number, sized}
use Rattle.hub_format.proofs.MarkReading.{mark_read}
use Rattle.hub_format.proofs.read_marks.mark_of.Goals as goal

pub returns-in-Some-3-clause-found : goal.returns-in-Some-3-clause-found
returns-in-Some-3-clause-found c mark fits same =
    let caller = c.in-Some-2.caller in
    let n = c.in-Some.number in
    let body = c.in-Some-body_parts in
    let kept = body.parts.kept in
    let write = c.in-Some-3.write in
    let name : caller ≡ c.in-Some.caller.now = rw c.in-Some-2.is at c.in_ok-caller.ensures in
    let parts = rw c.in-Some-3.is at c.in_ok-write.ensures in
    let small : n < 2 ^ 64 = search rules in
    mark_read (record { caller = caller; number = n; write = write; kept = kept }) mark (entry_of c.args.item.now) fits same
    (ap (λ bytes. mark_label (bytes, n)) name ∙ sym c.in-Some.ensures ∙ c.as_slice.ensures)
    ((λ i. parts.0 i ∷ parts.1 i ∷ (sized (parts.2 i) ++ (sized (parts.3 i) ++ (kept.outcome ∷ number kept.version)))) ∙ sym body.ensures.parts ∙ c.as_slice-2.ensures)
    small (subst IsSized (sym parts.2) body.ensures.id) (subst IsSized (sym parts.3) body.ensures.text) body.ensures.version

pub returns-in-Some-3-clause-whole : goal.returns-in-Some-3-clause-whole
returns-in-Some-3-clause-whole c =
    let n = c.in-Some.number in
    let body = c.in-Some-body_parts in
    let kept = body.parts.kept in
    let name : c.in-Some-2.caller ≡ c.in-Some.caller.now = rw c.in-Some-2.is at c.in_ok-caller.ensures in
    let parts = rw c.in-Some-3.is at c.in_ok-write.ensures in
    let label = ap (λ bytes. mark_label (bytes, n)) name ∙ sym c.in-Some.ensures ∙ c.as_slice.ensures in
    let bodies = (λ i. parts.0 i ∷ parts.1 i ∷ (sized (parts.2 i) ++ (sized (parts.3 i) ++ (kept.outcome ∷ number kept.version)))) ∙ sym body.ensures.parts ∙ c.as_slice-2.ensures in
    sym (λ i. (label i, bodies i))
