-- Two steps of a call, one after the other.
use Rattle.std.proofs.Common.{◌∙◌, ℕ, Bool, List, Option, arith}
use Rattle.outside_io.specs.Files.{Files}
use Rattle.command_answer.specs.Calls.{Outside}
use Rattle.command_stages.specs.Reading.{IsStepOf, KeepsShelf}

module _ (held held' held'' : Option Files) (empty empty' empty'' : Bool) (f g h : List ℕ → ℕ) (one : KeepsShelf held held' empty empty' f g) (two : KeepsShelf held' held'' empty' empty'' g h) where
  module _ (o : Outside) (step : IsStepOf o held empty f h) where
    pub first_step : IsStepOf o held empty f g
    first_step = record {
      holds = step.holds;
      flag = step.flag;
      since = step.since;
      until = λ name. let low = two.counts name in let high = step.until name in omega (arith, low, high);
    }

    pub second_step : IsStepOf o held' empty' g h
    second_step = record {
      holds = one.holds ∙ step.holds;
      flag = one.flag ∙ step.flag;
      since = λ name. let low = step.since name in let high = one.counts name in omega (arith, low, high);
      until = step.until;
    }
