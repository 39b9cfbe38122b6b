-- A piece that was stepped.
use Rattle.std.proofs.Common.{◌≡◌, ◌∙◌, sym, ℕ, List, Option}
use Rattle.first_failure.specs.declared.least.EquationFailing.{EquationFailing}
use Rattle.partition_step.specs.declared.part.Outcome.{Outcome}
use Rattle.partition_step.specs.declared.part.Part.{Part}
use Rattle.partition_step.specs.Steps.{Showing, CanStep, StepsFrom, failing_in}
use Rattle.moment_steps.specs.declared.piece.Piece.{Piece}
use Rattle.moment_steps.specs.Stepped.{IsPieceStepped}

pub piece_stepped : (showing : Showing) (old : Piece) (part : Part) (result : Outcome) (told : Option EquationFailing) → CanStep showing old.part → StepsFrom showing old.part part result → told ≡ failing_in result
    → IsPieceStepped showing old (record { part = part; told = told })
piece_stepped showing old part result told can steps is = record {
  result = result;
  steps = steps;
  told = is;
  same =
      let done = steps can.s can.uses can.before can.own can.after can.partition can.S can.m can.base can.start in
      done.part_of.laid.uses_are ∙ sym can.start.part_of.laid.uses_are;
}
