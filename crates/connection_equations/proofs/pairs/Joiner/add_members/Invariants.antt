use Rattle.std.proofs.Common.{◌≡◌, ◌++◌, flat_map, take}
use Rattle.class_scopes.specs.Tables.{number_of}
use Rattle.connection_equations.specs.Connections.{member_pair}
use Rattle.connection_equations.proofs.pairs.Joiner.add_members.Given as goal

abbrev pub invariant-loop-member : goal.invariant-loop-member
invariant-loop-member l =
    l.pairs
    ≡ l.initial.pairs ++ flat_map (member_pair l.self.scopes.now.named.file.text.now l.self.scopes.now.named.file.classes.now (number_of l.self.names.now) l.a l.b) (take l.member-index l.members)
