use Rattle.std.proofs.Common.{◌≡◌, ◌++◌, map, drop}
use Rattle.flat_types.specs.Readings.{node_of}
use Rattle.flat_types.proofs.reader.Reader.+reading.Given as goal

abbrev pub invariant-all-loop-part : goal.invariant-all-loop-part
invariant-all-loop-part l = l.found ++ map (node_of l.self.names.now) (drop l.part-index l.parts) ≡ map (node_of l.self.names.now) l.parts
