use Rattle.std.proofs.Common.{◌≡◌, min, length, take}
use Rattle.std.specs.List.{sum_by}
use Rattle.class_scopes.specs.Tables.{number_of}
use Rattle.connection_equations.specs.Connections.{kept_pairs}
use Rattle.instance_sizes.proofs.pairs.joined_pairs.Given as goal

abbrev pub invariant-loop-item : goal.invariant-loop-item
invariant-loop-item l =
    l.count
    ≡ min (sum_by (λ item. length (kept_pairs l.joiner.scopes.now.named.file.text.now l.joiner.scopes.now.named.file.classes.now (number_of l.joiner.names.now) item)) (take l.item-index l.items)) 65537
