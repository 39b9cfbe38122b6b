use Rattle.std.proofs.Common.{rules, ◌≡◌, ◌≤◌, None, length}
use Rattle.run_ahead.proofs.Advancing.{fill_stands, kept_there, still_standing}
use Rattle.fork_runner.specs.Runners.{keeps_of, window_of, seen_of}
use Rattle.fork_runner.proofs.runner.Runner.fill.Goals as goal

pub run-requires : goal.run-requires
run-requires g c =
    let none : (window_of c.args.self.now).fault ≡ None = search rules in
    (search rules, (search rules, (kept_there (keeps_of g.P.TickSource.planned c.args.self.now) (seen_of c.args.self.now) c.requires none, none)))

pub returns-then-is_none-clause-fills : goal.returns-then-is_none-clause-fills
returns-then-is_none-clause-fills g c =
    let none : (window_of c.args.self.now).fault ≡ None = search rules in
    let all : length (window_of c.args.self.now).moments ≤ c.args.self.now.given = search rules in
    λ s S m stands. fill_stands (keeps_of g.P.TickSource.planned c.args.self.now) (keeps_of g.P.TickSource.planned c.run.new.self) s S m
    (seen_of c.args.self.now) (window_of c.run.new.self) stands all none c.run.ensures.runs

pub returns-then-is_none-clause-standing : goal.returns-then-is_none-clause-standing
returns-then-is_none-clause-standing g c = still_standing (keeps_of g.P.TickSource.planned c.args.self.now) (keeps_of g.P.TickSource.planned c.run.new.self)
    (seen_of c.args.self.now) (record { window = window_of c.run.new.self; given = 0 })
    (returns-then-is_none-clause-fills g c) c.requires
