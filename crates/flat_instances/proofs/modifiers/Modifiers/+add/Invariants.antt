use Rattle.std.proofs.Common.{take}
use Rattle.flat_instances.specs.Force.{AddsGiving, args_given}
use Rattle.flat_instances.proofs.modifiers.Modifiers.+add.Given as goal

abbrev pub invariant-add_args-loop-arg : goal.invariant-add_args-loop-arg
invariant-add_args-loop-arg l = AddsGiving l.text (args_given l.text l.scope (take l.arg-index l.args)) l.initial.self l.self
