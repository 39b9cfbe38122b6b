use Rattle.std.proofs.Common.{◌<◌, length, arith}
use Rattle.class_scopes.specs.Tables.{number_of}
use Rattle.parameter_values.specs.Slots.{seen}
use Rattle.flat_expressions.specs.Equations.{groups_at}
use Rattle.flat_expressions.proofs.Groups.{adds_more, still_few}
use Rattle.flat_expressions.proofs.expressions.Lowering.add_equations.Goals as goal

pub add_group-requires : goal.add_group-requires
add_group-requires c =
    let groups = groups_at c.args.self.now.text.now (seen c.args.self.now.parameters.now c.args.self.now.values.now) (number_of c.args.self.now.names.now) c.args.scope.now in
    let within : c.loop-equation.equation-index < length c.args.class_equations.now = omega arith in
    let few = still_few groups c.args.class_equations.now c.loop-equation.equation-index c.equation-item.result within c.equation-item.is
    c.args.clauses.now c.loop-equation.clauses c.loop-equation.invariant.1 c.requires in
    omega (arith, few)

pub loop-equation-preserved : goal.loop-equation-preserved
loop-equation-preserved c =
    let groups = groups_at c.args.self.now.text.now (seen c.args.self.now.parameters.now c.args.self.now.values.now) (number_of c.args.self.now.names.now) c.args.scope.now in
    let within : c.loop-equation.equation-index < length c.args.class_equations.now = omega arith in
    adds_more groups c.args.class_equations.now c.loop-equation.equation-index c.equation-item.result within c.equation-item.is
    c.args.equations.now c.loop-equation.equations c.add_group.new.equations c.args.clauses.now c.loop-equation.clauses c.add_group.new.clauses
    c.loop-equation.invariant c.in_ok-add_group.ensures
