use Rattle.std.proofs.Common.{rules, ◌≡◌, None, Some, is_none, false}
use Rattle.tick_plan.specs.Plans.{GoesOn}
use Rattle.fork_runner.specs.Runners.{is_kept}
use Rattle.run_moments.proofs.OnPlan.{ran_well, ran_badly, ran_out, ends_well, ends_badly, ends_out, there_at}
use Rattle.fork_runner.proofs.runner.Runner.run.Goals as goal

pub run_moment-self-requires : goal.run_moment-self-requires
run_moment-self-requires g c =
    let goes : GoesOn (g.P.TickSource.planned c.args.self.now.plan) (g.P.TickSource.planned c.next.new.self) (Some c.in-Some.at) = search rules in
    (search rules, (search rules, there_at (is_kept c.args.self.now.body) (g.P.TickSource.planned c.args.self.now.plan) (g.P.TickSource.planned c.next.new.self) c.in-Some.at c.requires.kept goes))

pub returns-then-is_none-clause-runs : goal.returns-then-is_none-clause-runs
returns-then-is_none-clause-runs g c =
    let w = c.args.self.now in
    let none : c.run_moment-self.result ≡ None = search rules in
    let goes : GoesOn (g.P.TickSource.planned w.plan) (g.P.TickSource.planned c.next.new.self) (Some c.in-Some.at) = search rules in
    ran_well (is_kept w.body) (is_kept c.run_moment-self.new.body) (g.P.TickSource.planned w.plan) (g.P.TickSource.planned c.next.new.self) (g.P.TickSource.planned c.run_moment-self.new.plan) c.in-Some.at
    (c.run_moment-self.new.body.sheet.row.items) c.run_moment-self.result none goes c.run_moment-self.ensures.moves

pub returns-then-is_none-clause-ends : goal.returns-then-is_none-clause-ends
returns-then-is_none-clause-ends g c =
    let w = c.args.self.now in
    let goes : GoesOn (g.P.TickSource.planned w.plan) (g.P.TickSource.planned c.next.new.self) (Some c.in-Some.at) = search rules in
    ends_well (g.P.TickSource.planned w.plan) (g.P.TickSource.planned c.next.new.self) (g.P.TickSource.planned c.run_moment-self.new.plan) c.in-Some.at (c.run_moment-self.new.body.sheet.row.items) c.run_moment-self.result goes

pub returns-else-is_none-clause-runs : goal.returns-else-is_none-clause-runs
returns-else-is_none-clause-runs g c =
    let w = c.args.self.now in
    let some : is_none c.run_moment-self.result ≡ false = search rules in
    let goes : GoesOn (g.P.TickSource.planned w.plan) (g.P.TickSource.planned c.next.new.self) (Some c.in-Some.at) = search rules in
    ran_badly (is_kept w.body) (is_kept c.run_moment-self.new.body) (g.P.TickSource.planned w.plan) (g.P.TickSource.planned c.next.new.self) (g.P.TickSource.planned c.run_moment-self.new.plan) c.in-Some.at
    (c.run_moment-self.new.body.sheet.row.items) c.run_moment-self.result some goes c.run_moment-self.ensures.moves

pub returns-else-is_none-clause-ends : goal.returns-else-is_none-clause-ends
returns-else-is_none-clause-ends g c =
    let w = c.args.self.now in
    let some : is_none c.run_moment-self.result ≡ false = search rules in
    let goes : GoesOn (g.P.TickSource.planned w.plan) (g.P.TickSource.planned c.next.new.self) (Some c.in-Some.at) = search rules in
    ends_badly (g.P.TickSource.planned w.plan) (g.P.TickSource.planned c.next.new.self) (g.P.TickSource.planned c.run_moment-self.new.plan) c.in-Some.at (c.run_moment-self.new.body.sheet.row.items) c.run_moment-self.result some goes

pub returns-in_default-clause-runs : goal.returns-in_default-clause-runs
returns-in_default-clause-runs g c =
    let w = c.args.self.now in
    let none : w.fault ≡ None = search rules in
    let goes : GoesOn (g.P.TickSource.planned w.plan) (g.P.TickSource.planned c.next.new.self) None = search rules in
    ran_out (is_kept w.body) (g.P.TickSource.planned w.plan) (g.P.TickSource.planned c.next.new.self) (w.body.sheet.row.items) w.fault none goes

pub returns-in_default-clause-ends : goal.returns-in_default-clause-ends
returns-in_default-clause-ends g c =
    let w = c.args.self.now in
    let none : w.fault ≡ None = search rules in
    let goes : GoesOn (g.P.TickSource.planned w.plan) (g.P.TickSource.planned c.next.new.self) None = search rules in
    ends_out (g.P.TickSource.planned w.plan) (g.P.TickSource.planned c.next.new.self) (w.body.sheet.row.items) w.fault none goes
