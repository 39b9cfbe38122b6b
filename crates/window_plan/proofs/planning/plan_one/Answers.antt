use Rattle.window_plan.proofs.Stepped.{some_left, may_fill_next, fills_next}
use Rattle.window_plan.proofs.planning.plan_one.Goals as goal

pub fill_moment-requires : goal.fill_moment-requires
fill_moment-requires g c =
    may_fill_next (g.P.TickSource.planned c.args.plan.now) (g.P.TickSource.planned c.next.new.self) c.in-Some.at c.args.low.now c.in-Some.ensures c.args.model.now c.args.pure.now c.args.moment.now c.requires

pub returns : goal.returns
returns g c = (
  some_left (g.P.TickSource.planned c.args.plan.now) (g.P.TickSource.planned c.next.new.self) c.in-Some.at c.args.low.now c.in-Some.ensures,
  fills_next (g.P.TickSource.planned c.args.plan.now) (g.P.TickSource.planned c.next.new.self) c.in-Some.at c.args.low.now c.in-Some.ensures c.args.model.now c.args.pure.now c.args.moment.now _ c.fill_moment.ensures.fills,
)
