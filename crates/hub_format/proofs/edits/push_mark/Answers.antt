use Rattle.std.proofs.Common.{[], ◌∷◌, ◌++◌, ap, ◌∙◌}
use Rattle.hub_format.proofs.edits.push_mark.Goals as goal

pub returns-in_ok-push-in-Some-clause-edits : goal.returns-in_ok-push-in-Some-clause-edits
returns-in_ok-push-in-Some-clause-edits c =
    rw c.in-Some.is (c.in_ok-push-in-Some.ensures.items ∙ ap (λ e. c.args.edits.now.items ++ e ∷ []) c.in_ok-put_mark-in-Some.ensures.edit)
