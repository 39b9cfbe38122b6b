use Rattle.moment_steps.proofs.Kept.{stands_next}
use Rattle.moment_steps.proofs.staged.StagedSteps.keep.Goals as goal

pub returns-clause-keeps : goal.returns-clause-keeps
returns-clause-keeps c = λ s uses A n base behind.
    let w = c.args.self.now in
    stands_next s A n c.args.now.now behind.wide behind.meets w.left c.keep_left.new.left behind.ended.left_is c.keep_left.ensures.now c.keep_left.ensures.last
    w.pure w.waiting w.reads w.always w.numbers w.cells.items w.ticks.items w.places w.slots.items behind.ended
