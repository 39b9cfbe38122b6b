use Rattle.partition_step.specs.Steps.{Showing}
use Rattle.moment_steps.specs.Ticked.{row_ticks}
use Rattle.moment_steps.proofs.Pieces.{piece_stepped}
use Rattle.moment_steps.proofs.piece.PieceStepScene.step.Goals as goal

pub returns : goal.returns
returns c =
    let scene = c.args.scene.now in
    let showing : Showing = record { equations = scene.flat.now.equations; places = scene.places.now; moment = scene.at; ticks = row_ticks scene.ticks.now; answers = scene.answers.now; left = scene.left.now } in
    piece_stepped showing c.args.self.now c.step-outcome.new.self c.step-outcome.result c.failing_in-self.result c.requires c.step-outcome.ensures c.failing_in-self.ensures
