use Rattle.std.proofs.Common.{◌≡◌, ◌<◌, ◌^◌, true, take}
use Rattle.std.specs.List.{list_all}
use Rattle.roster_texts.specs.Digits.{decimal_value, is_digit}
use Rattle.roster_texts.proofs.digits.number.Given as goal

abbrev pub invariant-loop-b : goal.invariant-loop-b
invariant-loop-b l = record {
  digits : list_all is_digit (take l.b-index l.digits) ≡ true;
  value : l.value ≡ decimal_value (take l.b-index l.digits);
  bound : l.value < 10 ^ l.b-index;
}
