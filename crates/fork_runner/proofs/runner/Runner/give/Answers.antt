use Rattle.std.proofs.Common.{rules, ◌+◌, ◌<◌, length}
use Rattle.run_ahead.proofs.Advancing.{row_gives, given_stands, passed_standing}
use Rattle.fork_runner.specs.Runners.{keeps_of, window_of, seen_of}
use Rattle.fork_runner.proofs.runner.Runner.give.Goals as goal

pub returns-then-self-count-clause-gives : goal.returns-then-self-count-clause-gives
returns-then-self-count-clause-gives g c =
    let lt : c.args.self.now.given < length (window_of c.args.self.now).moments = search rules in
    λ s S m stands filled passed before m₀ behind. row_gives (keeps_of g.P.TickSource.planned c.args.self.now) s before m₀ S m behind (seen_of c.args.self.now) stands lt passed

pub returns-then-self-count-clause-standing : goal.returns-then-self-count-clause-standing
returns-then-self-count-clause-standing g c =
    let lt : c.args.self.now.given < length (window_of c.args.self.now).moments = search rules in
    λ standing. passed_standing (keeps_of g.P.TickSource.planned c.args.self.now) (keeps_of g.P.TickSource.planned c.args.self.now)
    (seen_of c.args.self.now) (record { window = window_of c.args.self.now; given = c.args.self.now.given + 1 }) standing
    (λ s S m stands. (stands.ahead, m + 1, given_stands (keeps_of g.P.TickSource.planned c.args.self.now) s S m (seen_of c.args.self.now) stands lt))
