use Rattle.std.proofs.Common.{◌++◌, ◌∙◌, sym, ap, arith}
use Rattle.sync_world.proofs.AskLemmas.{left_some}
use Rattle.sync_world.proofs.asking.say_left.Goals as goal

pub returns : goal.returns
returns c xs ys kept left =
    c.in_ok-push.ensures.items ∙ ap (λ t. c.args.said.now.items ++ t) (sym (left_some c.args.request xs ys (omega (arith, kept, left, c.saturating_add.ensures, c.if-saturating_add-eq0.false))))
