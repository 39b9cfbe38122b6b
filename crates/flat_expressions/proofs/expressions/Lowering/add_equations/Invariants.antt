use Rattle.std.proofs.Common.{flat_map, take}
use Rattle.class_scopes.specs.Tables.{number_of}
use Rattle.parameter_values.specs.Slots.{seen}
use Rattle.flat_expressions.specs.Equations.{Adds, groups_at}
use Rattle.flat_expressions.proofs.expressions.Lowering.add_equations.Given as goal

abbrev pub invariant-loop-equation : goal.invariant-loop-equation
invariant-loop-equation l =
    Adds l.initial.equations l.initial.clauses
    (flat_map (groups_at l.self.text.now (seen l.self.parameters.now l.self.values.now) (number_of l.self.names.now) l.scope) (take l.equation-index l.class_equations))
    l.equations l.clauses
