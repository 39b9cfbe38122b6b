use Rattle.std.proofs.lemmas.Result.{IfOk-weaker}
use Rattle.parameter_values.proofs.GivenValues.{have_values}
use Rattle.parameter_values.proofs.evaluate.parameter_values.Goals as goal

pub returns : goal.returns
returns c = IfOk-weaker c.values_of.result _ _ (λ found are. have_values c.args.text.now c.args.numbers.now c.args.items.now found.items are) c.values_of.ensures
