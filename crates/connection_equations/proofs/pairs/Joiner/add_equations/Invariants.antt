use Rattle.std.proofs.Common.{◌≡◌, ◌++◌, flat_map, take}
use Rattle.class_scopes.specs.Tables.{number_of}
use Rattle.connection_equations.specs.Connections.{equation_pairs}
use Rattle.connection_equations.proofs.pairs.Joiner.add_equations.Given as goal

abbrev pub invariant-loop-equation : goal.invariant-loop-equation
invariant-loop-equation l =
    l.pairs
    ≡ l.initial.pairs ++ flat_map (equation_pairs l.self.scopes.now.named.file.text.now l.self.scopes.now.named.file.classes.now (number_of l.self.names.now) l.scope l.class) (take l.equation-index l.equations)
