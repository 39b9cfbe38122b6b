use Rattle.run_ahead.specs.Ahead.{Stands}
use Rattle.run_ahead.proofs.Advancing.{advances, advances_again, shows_row}
use Rattle.run_ahead.proofs.ahead.Ahead.advance.Goals as goal

pub returns-clause-advances : goal.returns-clause-advances
returns-clause-advances g c = advances
    (g.W.Windows.keeps c.args.self.now.window) (g.W.Windows.keeps c.fill.new.self.window) (g.W.Windows.keeps c.pass.new.self.window) (g.W.Windows.keeps c.fill-2.new.self.window) (g.W.Windows.keeps c.give.new.self.window)
    (record { window = g.W.Windows.shown c.args.self.now.window; given = c.args.self.now.given })
    (record { window = g.W.Windows.shown c.fill.new.self.window; given = c.fill.new.self.given })
    (record { window = g.W.Windows.shown c.pass.new.self.window; given = c.pass.new.self.given })
    (record { window = g.W.Windows.shown c.fill-2.new.self.window; given = c.fill-2.new.self.given })
    (record { window = g.W.Windows.shown c.give.new.self.window; given = c.give.new.self.given })
    c.give.result c.fill.ensures.fills c.pass.ensures.passes c.fill-2.ensures.fills c.fill-2.ensures.still c.give.ensures.gives

pub returns-clause-again : goal.returns-clause-again
returns-clause-again g c = advances_again
    (g.W.Windows.over c.args.self.now.window) (g.W.Windows.over c.fill.new.self.window) (g.W.Windows.over c.pass.new.self.window) (g.W.Windows.over c.fill-2.new.self.window) (g.W.Windows.over c.give.new.self.window)
    (record { window = g.W.Windows.shown c.args.self.now.window; given = c.args.self.now.given })
    (record { window = g.W.Windows.shown c.fill.new.self.window; given = c.fill.new.self.given })
    (record { window = g.W.Windows.shown c.pass.new.self.window; given = c.pass.new.self.given })
    (record { window = g.W.Windows.shown c.fill-2.new.self.window; given = c.fill-2.new.self.given })
    (record { window = g.W.Windows.shown c.give.new.self.window; given = c.give.new.self.given })
    c.give.result c.fill.ensures.still c.pass.ensures.still c.fill-2.ensures.still c.fill.ensures.ended c.pass.ensures.ended c.fill-2.ensures.ended (c.give.ensures.again c.fill-2.ensures.filled)

pub returns-clause-shows : goal.returns-clause-shows
returns-clause-shows g c = shows_row
    (g.W.Windows.keeps c.args.self.now.window)
    (Stands (g.W.Windows.keeps c.give.new.self.window) (record { window = g.W.Windows.shown c.give.new.self.window; given = c.give.new.self.given }))
    (record { window = g.W.Windows.shown c.args.self.now.window; given = c.args.self.now.given })
    (record { window = g.W.Windows.shown c.give.new.self.window; given = c.give.new.self.given })
    c.give.result (returns-clause-advances g c)
