use Rattle.std.proofs.Common.{map, take}
use Rattle.scope_names.specs.Written.{Adds, joined, names_in}
use Rattle.scope_names.proofs.written.+names.Given as goal

abbrev pub invariant-names_in_all-loop-part : goal.invariant-names_in_all-loop-part
invariant-names_in_all-loop-part l = Adds l.initial.found.items (joined (map names_in (take l.part-index l.parts))) l.found.items
