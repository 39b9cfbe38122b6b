use Rattle.std.proofs.Common.{◌≡◌, map, drop}
use Rattle.flat_instances.specs.Modifications.{first_of, given_by}
use Rattle.flat_instances.proofs.given.+given.Given as goal

abbrev pub invariant-given_in-loop-arg : goal.invariant-given_in-loop-arg
invariant-given_in-loop-arg l =
    first_of (map (λ arg. given_by l.text arg (map (λ name. name.now) l.path)) (drop l.arg-index l.args)) ≡ first_of (map (λ arg. given_by l.text arg (map (λ name. name.now) l.path)) l.args)
