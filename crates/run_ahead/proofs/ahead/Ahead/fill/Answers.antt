use Rattle.std.proofs.Common.{rules, ◌≡◌, ◌≤◌, None, length}
use Rattle.run_ahead.proofs.Advancing.{fill_stands, kept_there, still_standing}
use Rattle.run_ahead.proofs.ahead.Ahead.fill.Goals as goal

pub run-requires-clause-kept : goal.run-requires-clause-kept
run-requires-clause-kept g c =
    let none : (g.W.Windows.shown c.args.self.now.window).fault ≡ None = search rules in
    kept_there (g.W.Windows.keeps c.args.self.now.window) (record { window = g.W.Windows.shown c.args.self.now.window; given = c.args.self.now.given }) c.requires none

pub returns-then-is_none-clause-fills : goal.returns-then-is_none-clause-fills
returns-then-is_none-clause-fills g c =
    let none : (g.W.Windows.shown c.args.self.now.window).fault ≡ None = search rules in
    let all : length (g.W.Windows.shown c.args.self.now.window).moments ≤ c.args.self.now.given = search rules in
    λ s S m stands. fill_stands (g.W.Windows.keeps c.args.self.now.window) (g.W.Windows.keeps c.run.new.self) s S m
    (record { window = g.W.Windows.shown c.args.self.now.window; given = c.args.self.now.given }) (g.W.Windows.shown c.run.new.self) stands all none c.run.ensures.runs

pub returns-then-is_none-clause-standing : goal.returns-then-is_none-clause-standing
returns-then-is_none-clause-standing g c = still_standing (g.W.Windows.keeps c.args.self.now.window) (g.W.Windows.keeps c.run.new.self)
    (record { window = g.W.Windows.shown c.args.self.now.window; given = c.args.self.now.given }) (record { window = g.W.Windows.shown c.run.new.self; given = 0 })
    (returns-then-is_none-clause-fills g c) c.requires
