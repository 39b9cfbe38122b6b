use Rattle.run_ahead.proofs.Advancing.{advances, advances_again, shows_row}
use Rattle.fork_runner.specs.Runners.{keeps_of, seen_of, is_over, StandsFor}
use Rattle.fork_runner.proofs.runner.Runner.advance.Goals as goal

pub returns-clause-advances : goal.returns-clause-advances
returns-clause-advances g c = advances
    (keeps_of g.P.TickSource.planned c.args.self.now) (keeps_of g.P.TickSource.planned c.fill.new.self) (keeps_of g.P.TickSource.planned c.pass.new.self) (keeps_of g.P.TickSource.planned c.fill-2.new.self) (keeps_of g.P.TickSource.planned c.give.new.self)
    (seen_of c.args.self.now)
    (seen_of c.fill.new.self)
    (seen_of c.pass.new.self)
    (seen_of c.fill-2.new.self)
    (seen_of c.give.new.self)
    c.give.result c.fill.ensures.fills c.pass.ensures.passes c.fill-2.ensures.fills c.fill-2.ensures.still c.give.ensures.gives

pub returns-clause-again : goal.returns-clause-again
returns-clause-again g c = advances_again
    (is_over g.P.TickSource.planned c.args.self.now) (is_over g.P.TickSource.planned c.fill.new.self) (is_over g.P.TickSource.planned c.pass.new.self) (is_over g.P.TickSource.planned c.fill-2.new.self) (is_over g.P.TickSource.planned c.give.new.self)
    (seen_of c.args.self.now)
    (seen_of c.fill.new.self)
    (seen_of c.pass.new.self)
    (seen_of c.fill-2.new.self)
    (seen_of c.give.new.self)
    c.give.result c.fill.ensures.still c.pass.ensures.still c.fill-2.ensures.still c.fill.ensures.ended c.pass.ensures.ended c.fill-2.ensures.ended (c.give.ensures.again c.fill-2.ensures.filled)

pub returns-clause-shows : goal.returns-clause-shows
returns-clause-shows g c = shows_row
    (keeps_of g.P.TickSource.planned c.args.self.now)
    (StandsFor g.P.TickSource.planned c.give.new.self)
    (seen_of c.args.self.now)
    (seen_of c.give.new.self)
    c.give.result (returns-clause-advances g c)
