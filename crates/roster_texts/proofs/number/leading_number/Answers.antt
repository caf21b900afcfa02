use Rattle.std.proofs.Common.{◌≡◌, ◌≤◌, ◌∙◌, ap, Some, length, take, arith, length-take}
use Rattle.std.specs.Prelude.{unwrap_or}
use Rattle.roster_texts.specs.Digits.{decimal_value}
use Rattle.roster_texts.specs.Numbers.{first_digits}
use Rattle.roster_texts.proofs.DigitLemmas.{front_value, twelve_digits}
use Rattle.roster_texts.proofs.number.leading_number.Goals as goal

pub returns-clause-value : goal.returns-clause-value
returns-clause-value c =
    let found : c.number.result ≡ Some (decimal_value (first_digits c.args.text.now)) = c.number.ensures.value ∙ front_value c.args.text.now c.count_digits.result c.count_digits.ensures.value in
    c.unwrap_or.ensures ∙ ap (λ o. unwrap_or o 0) found

pub returns-clause-bound : goal.returns-clause-bound
returns-clause-bound c =
    let few : length (take c.count_digits.result c.args.text.now) ≤ 12 = omega (arith, length-take c.count_digits.result c.args.text.now) in
    let found : c.number.result ≡ Some (decimal_value (first_digits c.args.text.now)) = c.number.ensures.value ∙ front_value c.args.text.now c.count_digits.result c.count_digits.ensures.value in
    let small = rw found at c.number.ensures.bound in
    let value : c.unwrap_or.result ≡ decimal_value (first_digits c.args.text.now) = c.unwrap_or.ensures ∙ ap (λ o. unwrap_or o 0) found in
    rw value (twelve_digits (decimal_value (first_digits c.args.text.now)) _ small few)
