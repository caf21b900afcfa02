use Rattle.std.proofs.Common.{◌≡◌, Some, None, true, false, cond, sym, ap, ◌∙◌, rules}
use Rattle.std.specs.Prelude.{is_some}
use Rattle.roster_types.specs.Keys.{look_up}
use Rattle.roster_values.specs.Kinds.{place_of_kind}
use Rattle.version_changes.proofs.MarkLemmas.{none_found}
use Rattle.version_changes.specs.sets.Applying.{is_left_out, marked, set_key}
use Rattle.version_changes.specs.sets.Steps.{mark_of}
use Rattle.version_core.specs.Changes.{change_key}
use Rattle.version_changes.proofs.sets.marks.mark_of.Goals as goal

pub returns : goal.returns
returns c =
    let set = c.args.set.now in
    let at = c.args.at in
    let stored = c.args.stored.now in
    let unlisted : is_some (look_up set_key (change_key stored) c.args.listed.now) ≡ false =
    (λ i. is_some (look_up set_key (place_of_kind (sym c.kind.ensures.kind i), sym c.id.ensures i) c.args.listed.now)) ∙ sym c.is_listed.ensures ∙ (search rules) in
    let left : is_left_out set stored ≡ true = sym c.is_left_out.ensures ∙ (search rules) in
    ap Some c.in_ok-marked.ensures ∙ sym (ap (λ b. cond b (Some (marked at stored)) None) left) ∙ ap (λ l. mark_of set at l stored) (sym (none_found (look_up set_key (change_key stored) c.args.listed.now) unlisted))
