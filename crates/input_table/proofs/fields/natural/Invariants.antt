use Rattle.std.proofs.Common.{◌≡◌, take}
use Rattle.std.specs.Str.Parse.{AllDigits, digits_value}
use Rattle.input_table.proofs.fields.natural.Given as goal

-- the bytes read are digits, and `value` is the number that they write
abbrev pub invariant-loop-digit : goal.invariant-loop-digit
invariant-loop-digit l = record {
  digits : AllDigits 10 (take l.digit-index l.digits);
  value : l.value ≡ digits_value 10 (take l.digit-index l.digits);
}
