use Rattle.input_table.proofs.Fronts.{true_front, false_front}
use Rattle.input_table.proofs.front.boolean_front.Goals as goal

pub returns-in-Some : goal.returns-in-Some
returns-in-Some c = false_front c.args.text.now c.in-Some.rest.now c.in-Some.ensures

pub returns-in-Some-behind : goal.returns-in-Some-behind
returns-in-Some-behind c = true_front c.args.text.now c.in-Some-behind.others.now c.in-Some-behind.ensures
