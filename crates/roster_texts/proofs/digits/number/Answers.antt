use Rattle.std.proofs.Common.{arith}
use Rattle.roster_texts.proofs.DigitLemmas.{room_for_digit}
use Rattle.roster_texts.proofs.digits.number.Goals as goal

pub overflow_mul-value : goal.overflow_mul-value
overflow_mul-value c =
    omega (arith, room_for_digit c.loop-b.value c.loop-b.b-index _ c.loop-b.invariant.bound c.loop-b-test.true c.requires)

pub overflow_add-value : goal.overflow_add-value
overflow_add-value c =
    omega (arith, room_for_digit c.loop-b.value c.loop-b.b-index _ c.loop-b.invariant.bound c.loop-b-test.true c.requires)
