use Rattle.flat_model.specs.RawModels.{HasConstants}
use Rattle.clock_tests.proofs.Steps.{all_push}
use Rattle.clock_tests.proofs.equations.add.Goals as goal

pub returns : goal.returns
returns g c = rw c.in_ok-push.ensures.ok (all_push HasConstants c.args.equations.now _ c.requires (c.in_ok-left.ensures, c.in_ok-right.ensures))
