use Rattle.std.proofs.Common.{◌≡◌, true}
use Rattle.flat_model.specs.RawModels.{constants_fit}
use Rattle.clock_tests.proofs.Steps.{all_push}
use Rattle.clock_tests.proofs.equations.add_clock.Goals as goal

pub returns : goal.returns
returns c = rw c.in_ok-push.ensures.ok (all_push (λ clause. constants_fit clause ≡ true) c.args.clauses.now _ c.requires c.in_ok-clock.ensures)
