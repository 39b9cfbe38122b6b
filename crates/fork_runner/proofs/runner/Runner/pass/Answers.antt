use Rattle.std.proofs.Common.{rules, ◌≡◌, ◌+◌, ◌<◌, Some, slice_get, length}
use Rattle.flat_model.specs.declared.clock.Moment.TheVariants.{Initial}
use Rattle.run_ahead.proofs.Advancing.{pass_initial, given_stands, passed_standing}
use Rattle.fork_runner.specs.Runners.{keeps_of, window_of, seen_of}
use Rattle.fork_runner.proofs.runner.Runner.pass.Goals as goal

pub returns-in-Initial-clause-passes : goal.returns-in-Initial-clause-passes
returns-in-Initial-clause-passes g c =
    let lt : c.args.self.now.given < length (window_of c.args.self.now).moments = search rules in
    let is : slice_get (window_of c.args.self.now).moments c.args.self.now.given ≡ Some Initial = search rules in
    λ s S m stands filled. pass_initial (keeps_of g.P.TickSource.planned c.args.self.now) s S m (seen_of c.args.self.now) stands lt is

pub returns-in-Initial-clause-standing : goal.returns-in-Initial-clause-standing
returns-in-Initial-clause-standing g c =
    let lt : c.args.self.now.given < length (window_of c.args.self.now).moments = search rules in
    λ standing. passed_standing (keeps_of g.P.TickSource.planned c.args.self.now) (keeps_of g.P.TickSource.planned c.args.self.now)
    (seen_of c.args.self.now) (record { window = window_of c.args.self.now; given = c.args.self.now.given + 1 }) standing
    (λ s S m stands. (stands.ahead, m + 1, given_stands (keeps_of g.P.TickSource.planned c.args.self.now) s S m (seen_of c.args.self.now) stands lt))
