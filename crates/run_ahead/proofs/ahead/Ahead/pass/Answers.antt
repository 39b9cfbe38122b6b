use Rattle.std.proofs.Common.{rules, arith, ◌≡◌, ◌+◌, ◌<◌, Some, slice_get, length}
use Rattle.flat_model.specs.declared.clock.Moment.TheVariants.{Initial}
use Rattle.run_ahead.proofs.Advancing.{pass_initial, given_stands, passed_standing}
use Rattle.run_ahead.proofs.ahead.Ahead.pass.Goals as goal

pub returns-in-Initial-clause-passes : goal.returns-in-Initial-clause-passes
returns-in-Initial-clause-passes g c =
    let lt : c.args.self.now.given < length (g.W.Windows.shown c.args.self.now.window).moments = search rules in
    let is : slice_get (g.W.Windows.shown c.args.self.now.window).moments c.args.self.now.given ≡ Some Initial = search rules in
    λ s S m stands filled. pass_initial (g.W.Windows.keeps c.args.self.now.window) s S m (record { window = g.W.Windows.shown c.args.self.now.window; given = c.args.self.now.given }) stands lt is

pub returns-in-Initial-clause-standing : goal.returns-in-Initial-clause-standing
returns-in-Initial-clause-standing g c =
    let lt : c.args.self.now.given < length (g.W.Windows.shown c.args.self.now.window).moments = search rules in
    λ standing. passed_standing (g.W.Windows.keeps c.args.self.now.window) (g.W.Windows.keeps c.args.self.now.window)
    (record { window = g.W.Windows.shown c.args.self.now.window; given = c.args.self.now.given }) (record { window = g.W.Windows.shown c.args.self.now.window; given = c.args.self.now.given + 1 }) standing
    (λ s S m stands. (stands.ahead, m + 1, given_stands (g.W.Windows.keeps c.args.self.now.window) s S m (record { window = g.W.Windows.shown c.args.self.now.window; given = c.args.self.now.given }) stands lt))
