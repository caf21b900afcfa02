use Rattle.std.proofs.Common.{◌≡◌, ◌++◌, IfOk, IsTrue, map, sym, ap, subst, ◌∙◌}
use Rattle.item_maps.specs.Edits.{entry_of}
use Rattle.hub_format.specs.Format.{grants_under}
use Rattle.span_format.proofs.Planning.{goes_new, goes_stored}
use Rattle.span_format.proofs.plan.push_oldest.Goals as goal

pub returns-then-change-base : goal.returns-then-change-base
returns-then-change-base c t are bases above can old =
    subst (λ es. IfOk c.push_folded_change.result (λ done. IsTrue done → c.push_folded_change.new.edits.items ≡ c.args.edits.now.items ++ es))
    (sym (goes_new t c.args.change.now c.args.keep c.args.base are bases above can c.if-change-base.true))
    (c.push_folded_change.ensures t.base bases c.if-change-base.true (ap (map entry_of) c.as_slice.ensures.value ∙ old.grants ∙ ap (λ n. grants_under n t.base.grants) (sym bases)))

pub returns-else-change-base : goal.returns-else-change-base
returns-else-change-base c t are bases above can old =
    let there = goes_stored t c.args.change.now c.args.keep c.args.base are bases above can c.if-change-base.false in
    subst (λ es. IfOk c.push_stored.result (λ done. IsTrue done → c.push_stored.new.edits.items ≡ c.args.edits.now.items ++ es)) (sym there.4)
    (c.push_stored.ensures t there.0 there.1 bases there.3 there.2 old)
