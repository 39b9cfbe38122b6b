use Rattle.std.proofs.Common.{◌≡◌, ◌≤◌, take}
use Rattle.std.specs.Str.Parse.{AllDigits, digits_value}
use Rattle.input_table.proofs.front.number_front.Given as goal

-- the bytes passed are digits, not too many, and `value` is the number that they write
abbrev pub invariant-loop-at : goal.invariant-loop-at
invariant-loop-at l = record {
  few : l.at ≤ 18;
  digits : AllDigits 10 (take l.at l.text);
  value : l.value ≡ digits_value 10 (take l.at l.text);
}
