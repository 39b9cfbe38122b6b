use Rattle.std.proofs.Common.{refl, pos}
use Rattle.order_tests.proofs.Tame.{both_present}
use Rattle.order_tests.proofs.solving.solved.Goals as goal

pub solve_value-requires-clause-present : goal.solve_value-requires-clause-present
solve_value-requires-clause-present c =
    both_present _ c.args.left c.args.right (record { now = λ x. (pos 7, refl); previous = λ x. (pos 3, refl) }) c.requires.left c.requires.right
