use Rattle.std.proofs.Common.{rules, ◌≡◌, None, Some, is_none, false}
use Rattle.tick_plan.specs.Plans.{GoesOn}
use Rattle.run_moments.proofs.OnPlan.{ran_well, ran_badly, ran_out, ends_well, ends_badly, ends_out, there_at}
use Rattle.run_moments.proofs.single.SingleWindows.run.Goals as goal

pub moment-self-requires : goal.moment-self-requires
moment-self-requires g c =
    let goes : GoesOn (g.P.TickSource.planned c.args.self.now.plan) (g.P.TickSource.planned c.next.new.self) (Some c.in-Some.at) = search rules in
    record { there = there_at (g.B.Body.keeps c.args.self.now.body) (g.P.TickSource.planned c.args.self.now.plan) (g.P.TickSource.planned c.next.new.self) c.in-Some.at c.requires.kept goes }

pub returns-then-is_none-clause-runs : goal.returns-then-is_none-clause-runs
returns-then-is_none-clause-runs g c =
    let w = c.args.self.now in
    let none : c.moment-self.result ≡ None = search rules in
    let goes : GoesOn (g.P.TickSource.planned w.plan) (g.P.TickSource.planned c.next.new.self) (Some c.in-Some.at) = search rules in
    ran_well (g.B.Body.keeps w.body) (g.B.Body.keeps c.moment-self.new.self) (g.P.TickSource.planned w.plan) (g.P.TickSource.planned c.next.new.self) (g.P.TickSource.planned c.moment-self.new.plan) c.in-Some.at
    (g.B.Body.columns c.moment-self.new.self) c.moment-self.result none goes c.moment-self.ensures.moves

pub returns-then-is_none-clause-ends : goal.returns-then-is_none-clause-ends
returns-then-is_none-clause-ends g c =
    let w = c.args.self.now in
    let goes : GoesOn (g.P.TickSource.planned w.plan) (g.P.TickSource.planned c.next.new.self) (Some c.in-Some.at) = search rules in
    ends_well (g.P.TickSource.planned w.plan) (g.P.TickSource.planned c.next.new.self) (g.P.TickSource.planned c.moment-self.new.plan) c.in-Some.at (g.B.Body.columns c.moment-self.new.self) c.moment-self.result goes

pub returns-else-is_none-clause-runs : goal.returns-else-is_none-clause-runs
returns-else-is_none-clause-runs g c =
    let w = c.args.self.now in
    let some : is_none c.moment-self.result ≡ false = search rules in
    let goes : GoesOn (g.P.TickSource.planned w.plan) (g.P.TickSource.planned c.next.new.self) (Some c.in-Some.at) = search rules in
    ran_badly (g.B.Body.keeps w.body) (g.B.Body.keeps c.moment-self.new.self) (g.P.TickSource.planned w.plan) (g.P.TickSource.planned c.next.new.self) (g.P.TickSource.planned c.moment-self.new.plan) c.in-Some.at
    (g.B.Body.columns c.moment-self.new.self) c.moment-self.result some goes c.moment-self.ensures.moves

pub returns-else-is_none-clause-ends : goal.returns-else-is_none-clause-ends
returns-else-is_none-clause-ends g c =
    let w = c.args.self.now in
    let some : is_none c.moment-self.result ≡ false = search rules in
    let goes : GoesOn (g.P.TickSource.planned w.plan) (g.P.TickSource.planned c.next.new.self) (Some c.in-Some.at) = search rules in
    ends_badly (g.P.TickSource.planned w.plan) (g.P.TickSource.planned c.next.new.self) (g.P.TickSource.planned c.moment-self.new.plan) c.in-Some.at (g.B.Body.columns c.moment-self.new.self) c.moment-self.result some goes

pub returns-in_default-clause-runs : goal.returns-in_default-clause-runs
returns-in_default-clause-runs g c =
    let w = c.args.self.now in
    let none : w.fault ≡ None = search rules in
    let goes : GoesOn (g.P.TickSource.planned w.plan) (g.P.TickSource.planned c.next.new.self) None = search rules in
    ran_out (g.B.Body.keeps w.body) (g.P.TickSource.planned w.plan) (g.P.TickSource.planned c.next.new.self) (g.B.Body.columns w.body) w.fault none goes

pub returns-in_default-clause-ends : goal.returns-in_default-clause-ends
returns-in_default-clause-ends g c =
    let w = c.args.self.now in
    let none : w.fault ≡ None = search rules in
    let goes : GoesOn (g.P.TickSource.planned w.plan) (g.P.TickSource.planned c.next.new.self) None = search rules in
    ends_out (g.P.TickSource.planned w.plan) (g.P.TickSource.planned c.next.new.self) (g.B.Body.columns w.body) w.fault none goes
