use Rattle.std.proofs.Common.{◌≡◌, map, drop}
use Rattle.std.specs.List.{list_all}
use Rattle.flat_types.specs.Outcomes.{is_constant}
use Rattle.flat_types.proofs.counters.+constant.Given as goal

abbrev pub invariant-are_constant-loop-part : goal.invariant-are_constant-loop-part
invariant-are_constant-loop-part l = list_all (λ part. part) (map is_constant (drop l.part-index l.parts)) ≡ list_all (λ part. part) (map is_constant l.parts)
