use Rattle.filter_grammar.specs.Decoded.{decoded_left}
use Rattle.filter_grammar.proofs.FirstCharacter.{utf8_four, utf8_no_fourth, utf8_no_second, utf8_no_third, utf8_one}
use Rattle.filter_grammar.proofs.FirstCharacter.{utf8_three, utf8_two}
use Rattle.filter_grammar.proofs.decoded.Decoded.takes_character.Goals as goal

pub returns-then-first-lt128-clause-text : goal.returns-then-first-lt128-clause-text
returns-then-first-lt128-clause-text c = utf8_one c.args.first (decoded_left c.args.self.now) c.if-first-lt128.true

pub returns-in_default-clause-text : goal.returns-in_default-clause-text
returns-in_default-clause-text c = rw c.in_default.ensures.steps.0 (utf8_no_second c.args.first c.if-first-lt128.false)

pub returns-then-first-lt224-clause-text : goal.returns-then-first-lt224-clause-text
returns-then-first-lt224-clause-text c =
    rw (c.in-Some.ensures.steps, c.is_character.ensures) (utf8_two c.args.first c.in-Some.second (decoded_left c.next.new.self) c.if-first-lt128.false c.if-first-lt224.true)

pub returns-in_default-next-clause-text : goal.returns-in_default-next-clause-text
returns-in_default-next-clause-text c =
    rw (c.in-Some.ensures.steps, c.in_default-next.ensures.steps.0) (utf8_no_third c.args.first c.in-Some.second c.if-first-lt224.false)

pub returns-then-first-lt240-clause-text : goal.returns-then-first-lt240-clause-text
returns-then-first-lt240-clause-text c =
    rw (c.in-Some.ensures.steps, c.in-Some-next.ensures.steps, c.is_character-then-first-lt240.ensures)
    (utf8_three c.args.first c.in-Some.second c.in-Some-next.third (decoded_left c.next-2.new.self) c.if-first-lt224.false c.if-first-lt240.true)

pub returns-in_default-next-2-clause-text : goal.returns-in_default-next-2-clause-text
returns-in_default-next-2-clause-text c =
    rw (c.in-Some.ensures.steps, c.in-Some-next.ensures.steps, c.in_default-next-2.ensures.steps.0)
    (utf8_no_fourth c.args.first c.in-Some.second c.in-Some-next.third c.if-first-lt240.false)

pub returns-clause-text : goal.returns-clause-text
returns-clause-text c =
    rw (c.in-Some.ensures.steps, c.in-Some-next.ensures.steps, c.in-Some-next-2.ensures.steps, c.is_character-2.ensures)
    (utf8_four c.args.first c.in-Some.second c.in-Some-next.third c.in-Some-next-2.fourth (decoded_left c.next-3.new.self) c.if-first-lt240.false)
