use Rattle.std.proofs.Common.{[], ◌∷◌, ◌++◌, append-nil, sym, ap, ◌∙◌}
use Rattle.span_format.specs.Edits.{added, let_go}
use Rattle.span_format.proofs.Planning.{goes_none}
use Rattle.span_format.proofs.plan.change_edits.Goals as goal

pub returns-then-not-lets_go-clause-edits : goal.returns-then-not-lets_go-clause-edits
returns-then-not-lets_go-clause-edits c t are keeps bases can old =
    let change = c.args.change.now in
    let none = ap (λ k. let_go k t.base (t.changes ++ change ∷ [])) (sym keeps) ∙ goes_none t change c.args.keep c.args.base are bases (sym c.lets_go.ensures ∙ c.if-not-lets_go.true) can in
    c.in_ok-edits.ensures.edits ∙ sym (append-nil (added change)) ∙ ap (λ es. added change ++ es) (sym none)
