use Rattle.std.proofs.Common.{◌≡◌, ℕ, ◌+◌, map, take, sum}
use Rattle.eq_orient.specs.Spine.{count_in}
use Rattle.eq_orient.specs.Gathered.{count_of}
use Rattle.eq_orient.proofs.gathering.+gather.Given as goal

abbrev pub invariant-gather_all-loop-part : goal.invariant-gather_all-loop-part
invariant-gather_all-loop-part l = (x : ℕ) → count_of x l.names.items ≡ count_of x l.fn.names.items + sum (map (count_in l.manner x) (take l.part-index l.parts))
