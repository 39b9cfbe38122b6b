use Rattle.std.proofs.Common.{◌≡◌, map, take, sum}
use Rattle.eq_orient.specs.Spine.{tally, count_in}
use Rattle.eq_orient.proofs.standing.+standing.Given as goal

abbrev pub invariant-standing_in_all-loop-part : goal.invariant-standing_in_all-loop-part
invariant-standing_in_all-loop-part l = l.total ≡ tally (sum (map (count_in l.manner l.name) (take l.part-index l.parts)))
