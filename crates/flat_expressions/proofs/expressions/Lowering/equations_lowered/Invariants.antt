use Rattle.std.proofs.Common.{[], flat_map, take}
use Rattle.class_scopes.specs.Tables.{number_of}
use Rattle.flat_instances.specs.Kept as kept
use Rattle.parameter_values.specs.Slots.{seen}
use Rattle.flat_expressions.specs.Equations.{Adds, groups_of}
use Rattle.flat_expressions.proofs.expressions.Lowering.equations_lowered.Given as goal

abbrev pub invariant-loop-item : goal.invariant-loop-item
invariant-loop-item l =
    Adds [] []
    (flat_map (λ item. groups_of l.self.text.now (seen l.self.parameters.now l.self.values.now) (number_of l.self.names.now) l.classes (kept.seen l.self.text.now l.classes item)) (take l.item-index l.items))
    l.equations l.clauses
