use Rattle.std.proofs.Common.{rules, arith, ◌≡◌, ◌+◌, ◌<◌, length}
use Rattle.run_ahead.proofs.Advancing.{row_gives, given_stands, passed_standing}
use Rattle.run_ahead.proofs.ahead.Ahead.give.Goals as goal

pub returns-then-self-count-clause-gives : goal.returns-then-self-count-clause-gives
returns-then-self-count-clause-gives g c =
    let lt : c.args.self.now.given < length (g.W.Windows.shown c.args.self.now.window).moments = search rules in
    λ s S m stands filled passed before m₀ behind. row_gives (g.W.Windows.keeps c.args.self.now.window) s before m₀ S m behind (record { window = g.W.Windows.shown c.args.self.now.window; given = c.args.self.now.given }) stands lt passed

pub returns-then-self-count-clause-standing : goal.returns-then-self-count-clause-standing
returns-then-self-count-clause-standing g c =
    let lt : c.args.self.now.given < length (g.W.Windows.shown c.args.self.now.window).moments = search rules in
    λ standing. passed_standing (g.W.Windows.keeps c.args.self.now.window) (g.W.Windows.keeps c.args.self.now.window)
    (record { window = g.W.Windows.shown c.args.self.now.window; given = c.args.self.now.given }) (record { window = g.W.Windows.shown c.args.self.now.window; given = c.args.self.now.given + 1 }) standing
    (λ s S m stands. (stands.ahead, m + 1, given_stands (g.W.Windows.keeps c.args.self.now.window) s S m (record { window = g.W.Windows.shown c.args.self.now.window; given = c.args.self.now.given }) stands lt))
