use Rattle.std.proofs.Common.{inl, inr, ap, List, ℕ}
use Rattle.hub_commands.specs.declared.answer.Answer.{Answer}
use Rattle.hub_commands.proofs.follow.told_version.Goals as goal

pub returns-in-Ok : goal.returns-in-Ok
returns-in-Ok c =
    let told = c.told-cascaded.result in
    inl (told, rw (c.as_str.ensures.text, c.or_ended.ensures) at c.told-cascaded.ensures, ap (λ (done : List ℕ). let a : Answer = record { done = done; end = told.end } in a) c.in-Ok.ensures)

pub returns : goal.returns
returns c = inr c.nothing_done.ensures
