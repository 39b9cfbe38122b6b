use Rattle.std.proofs.Common.{◌≡◌, ◌++◌, map, flat_map, take, Some}
use Rattle.class_scopes.specs.Tables.{number_of}
use Rattle.parameter_values.specs.Slots.{seen}
use Rattle.flat_expressions.specs.Equations.{in_clause, sides_at}
use Rattle.flat_expressions.proofs.expressions.Lowering.add_members.Given as goal

abbrev pub invariant-loop-equation : goal.invariant-loop-equation
invariant-loop-equation l =
    l.equations
    ≡ l.initial.equations ++ map (in_clause (Some l.clause)) (flat_map (sides_at l.self.text.now (seen l.self.parameters.now l.self.values.now) (number_of l.self.names.now) l.scope) (take l.equation-index l.inside))
