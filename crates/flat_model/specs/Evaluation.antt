-- What the evaluation of an expression answers, and where it looks from.
use Rattle.std.specs.Prelude.{Bool, false, not, Result, Ok, Err}
use Rattle.sync_values.specs.declared.value.Value.{Value}
use Rattle.sync_values.specs.declared.value.Value.TheVariants as value
use Rattle.sync_values.specs.declared.value.Fail.{Fail}
use Rattle.sync_values.specs.declared.value.ChainOp.{ChainOp}
use Rattle.sync_values.specs.declared.value.ChainOp.TheVariants.{And, Or}
use Rattle.flat_model.specs.declared.evaluate.Vantage.{Vantage}
use Rattle.flat_model.specs.declared.evaluate.Vantage.TheVariants.{Now, Left}
use Rattle.flat_model.specs.Operators.{Answer, Is, Fails}
use Rattle.flat_model.specs.Views.{Views, before}

-- a result as an answer
abbrev pub answer_of : Result Value Fail → Answer
answer_of (Ok v) = Is v
answer_of (Err kind) = Fails kind

-- the views from the moment itself, or from the moment before as in the argument of `sample`
abbrev pub seen_from : Vantage → Views → Views
seen_from Now views = views
seen_from Left views = before views

-- the value of a chain so far is also its value with the next part, which is not evaluated
abbrev pub has_enough : ChainOp → Value → Bool
has_enough And (value.Bool b) = not b
has_enough Or (value.Bool b) = b
has_enough _ _ = false
