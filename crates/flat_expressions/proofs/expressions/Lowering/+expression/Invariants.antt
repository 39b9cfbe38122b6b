use Rattle.std.proofs.Common.{◌≡◌, map, take}
use Rattle.class_scopes.specs.Tables.{number_of}
use Rattle.parameter_values.specs.Slots.{seen}
use Rattle.flat_expressions.specs.Expressions.{expr_of}
use Rattle.flat_expressions.proofs.expressions.Lowering.+expression.Given as goal

abbrev pub invariant-all_lowered-loop-part : goal.invariant-all_lowered-loop-part
invariant-all_lowered-loop-part l =
    l.found ≡ map (expr_of l.self.text.now (seen l.self.parameters.now l.self.values.now) (number_of l.self.names.now) l.scope) (take l.part-index l.parts)
