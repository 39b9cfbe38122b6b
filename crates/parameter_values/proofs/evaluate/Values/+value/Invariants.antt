use Rattle.std.proofs.Common.{◌≡◌, map, take}
use Rattle.parameter_values.specs.Outcomes as outcomes
use Rattle.parameter_values.proofs.evaluate.Values.+value.Given as goal

abbrev pub invariant-all-loop-part : goal.invariant-all-loop-part
invariant-all-loop-part l = l.all.items ≡ map (outcomes.outcome l.self.text.now l.self.numbers.now l.self.slots.now l.scope) (take l.part-index l.parts)
