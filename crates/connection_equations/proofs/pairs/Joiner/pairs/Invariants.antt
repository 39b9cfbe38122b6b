use Rattle.std.proofs.Common.{◌≡◌, flat_map, take}
use Rattle.class_scopes.specs.Tables.{number_of}
use Rattle.connection_equations.specs.Connections.{kept_pairs}
use Rattle.connection_equations.proofs.pairs.Joiner.pairs.Given as goal

abbrev pub invariant-loop-item : goal.invariant-loop-item
invariant-loop-item l =
    l.pairs ≡ flat_map (kept_pairs l.self.scopes.now.named.file.text.now l.self.scopes.now.named.file.classes.now (number_of l.self.names.now)) (take l.item-index l.items)
