use Rattle.sync_values.specs.declared.value.Value.TheVariants as value
use Rattle.order_tests.proofs.Tame.{ready_const}
use Rattle.order_tests.proofs.solving.truth.Goals as goal

pub returns : goal.returns
returns c = ready_const (value.Bool c.args.truth)
