use Rattle.std.proofs.Common.{◌≡◌, ◌++◌, map, drop}
use Rattle.flat_types.specs.Typed.{clause_clock}
use Rattle.flat_types.proofs.reader.Reader.clause_clocks.Given as goal

abbrev pub invariant-loop-clause : goal.invariant-loop-clause
invariant-loop-clause l = l.clocks ++ map (clause_clock l.self.names.now) (drop l.clause-index l.clauses) ≡ map (clause_clock l.self.names.now) l.clauses
