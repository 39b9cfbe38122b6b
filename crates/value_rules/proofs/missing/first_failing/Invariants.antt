use Rattle.std.proofs.Common.{◌≡◌, drop}
use Rattle.std.specs.List.{position_from}
use Rattle.value_rules.specs.private.Missing.{failing}
use Rattle.value_rules.proofs.missing.first_failing.Given as goal

abbrev pub invariant-loop-number : goal.invariant-loop-number
invariant-loop-number l = position_from (failing l.values.text.now l.values.numbers.now l.values.slots.now l.count) l.number (drop l.number l.variables) ≡ position_from (failing l.values.text.now l.values.numbers.now l.values.slots.now l.count) 0 l.variables
