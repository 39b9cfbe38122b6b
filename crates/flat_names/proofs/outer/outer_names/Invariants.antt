use Rattle.std.proofs.Common.{◌≡◌, flat_map, take}
use Rattle.flat_answer.specs.Inputs.{outer_in}
use Rattle.flat_names.proofs.outer.outer_names.Given as goal

abbrev pub invariant-loop-element : goal.invariant-loop-element
invariant-loop-element l = l.found.items ≡ flat_map (outer_in l.file.text.now l.file.classes.now) (take l.element-index l.element-items)
