use Rattle.std.proofs.Common.{◌≡◌, true, not, ◌++◌, map, take, replicate}
use Rattle.base_partition.proofs.member.members.Given as goal

abbrev pub invariant-loop-name : goal.invariant-loop-name
invariant-loop-name l = l.members ≡ map (λ name. not name.input) (take l.name-index l.fn.names)

abbrev pub invariant-loop-node : goal.invariant-loop-node
invariant-loop-node l = l.members ≡ map (λ name. not name.input) l.fn.names ++ replicate l._node true
