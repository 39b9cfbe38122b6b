use Rattle.std.proofs.Common.{◌≡◌, ◌++◌, [], map, take}
use Rattle.flat_answer.specs.Inputs.{member_name}
use Rattle.flat_names.proofs.outer.add_members.Given as goal

abbrev pub invariant-loop-member : goal.invariant-loop-member
invariant-loop-member l = l.found.items ≡ l.initial.found.items ++ map (member_name l.text [] l.name) (take l.member-index l.members)
