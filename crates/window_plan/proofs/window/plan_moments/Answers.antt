use Rattle.std.proofs.Common.{rules, arith, ◌≡◌, ◌∙◌, refl, sym, subst, length, ◌<◌}
use Rattle.window_plan.specs.Windows.{Plans}
use Rattle.window_plan.proofs.Turning.{plans_first, may_turn, plans_more, plans_still, ends_still, ends_failing, quiet_more, none_more, long_more, ends_full}
use Rattle.window_plan.proofs.window.plan_moments.Goals as goal

pub loop-count-init : goal.loop-count-init
loop-count-init g c = record {
  long = refl;
  plans = plans_first c.args.model.now (record { plan = g.P.TickSource.planned c.args.plan.now; pure = c.args.pure.now; low = c.args.low.now; moments = c.args.moments.now });
  quiet = λ j moment lt. absurd (omega (arith, lt));
  none = λ over. (refl, refl);
}

pub plan_one-requires : goal.plan_one-requires
plan_one-requires g c =
    let within : c.loop-count.count < length c.loop-count.moments = search rules in
    may_turn c.args.model.now (record { plan = g.P.TickSource.planned c.args.plan.now; pure = c.args.pure.now; low = c.args.low.now; moments = c.args.moments.now })
    (record { plan = g.P.TickSource.planned c.loop-count.plan; pure = c.loop-count.pure; low = c.loop-count.low; moments = c.loop-count.moments }) c.loop-count.count c.loop-count.invariant.plans
    within c.index-moments-count.result c.requires

pub returns-then-not-plan_one-clause-plans : goal.returns-then-not-plan_one-clause-plans
returns-then-not-plan_one-clause-plans g c =
    let within : c.loop-count.count < length c.loop-count.moments = search rules in
    plans_still c.args.model.now (record { plan = g.P.TickSource.planned c.args.plan.now; pure = c.args.pure.now; low = c.args.low.now; moments = c.args.moments.now })
    (record { plan = g.P.TickSource.planned c.loop-count.plan; pure = c.loop-count.pure; low = c.loop-count.low; moments = c.loop-count.moments }) c.loop-count.count c.loop-count.invariant.plans
    within c.index-moments-count.result (record { plan = g.P.TickSource.planned c.plan_one.new.plan; pure = c.plan_one.new.pure; low = c.plan_one.new.low; moment = c.plan_one.new.moment }) c.if-not-plan_one.ensures

pub returns-then-not-plan_one-clause-ends : goal.returns-then-not-plan_one-clause-ends
returns-then-not-plan_one-clause-ends g c =
    let within : c.loop-count.count < length c.loop-count.moments = search rules in
    ends_still c.args.model.now (record { plan = g.P.TickSource.planned c.args.plan.now; pure = c.args.pure.now; low = c.args.low.now; moments = c.args.moments.now })
    (record { plan = g.P.TickSource.planned c.loop-count.plan; pure = c.loop-count.pure; low = c.loop-count.low; moments = c.loop-count.moments }) c.loop-count.count c.loop-count.invariant.plans
    within c.index-moments-count.result (record { plan = g.P.TickSource.planned c.plan_one.new.plan; pure = c.plan_one.new.pure; low = c.plan_one.new.low; moment = c.plan_one.new.moment }) c.loop-count.invariant.long c.loop-count.invariant.quiet c.loop-count.invariant.none c.if-not-plan_one.ensures

pub returns-then-fails-clause-plans : goal.returns-then-fails-clause-plans
returns-then-fails-clause-plans g c =
    let within : c.loop-count.count < length c.loop-count.moments = search rules in
    plans_more c.args.model.now (record { plan = g.P.TickSource.planned c.args.plan.now; pure = c.args.pure.now; low = c.args.low.now; moments = c.args.moments.now })
    (record { plan = g.P.TickSource.planned c.loop-count.plan; pure = c.loop-count.pure; low = c.loop-count.low; moments = c.loop-count.moments }) c.loop-count.count c.loop-count.invariant.plans
    within c.index-moments-count.result (record { plan = g.P.TickSource.planned c.plan_one.new.plan; pure = c.plan_one.new.pure; low = c.plan_one.new.low; moment = c.plan_one.new.moment }) c.if-not-plan_one.ensures

pub returns-then-fails-clause-ends : goal.returns-then-fails-clause-ends
returns-then-fails-clause-ends g c =
    let within : c.loop-count.count < length c.loop-count.moments = search rules in
    ends_failing c.args.model.now (record { plan = g.P.TickSource.planned c.args.plan.now; pure = c.args.pure.now; low = c.args.low.now; moments = c.args.moments.now })
    (record { plan = g.P.TickSource.planned c.loop-count.plan; pure = c.loop-count.pure; low = c.loop-count.low; moments = c.loop-count.moments }) c.loop-count.count c.loop-count.invariant.plans
    within c.index-moments-count.result (record { plan = g.P.TickSource.planned c.plan_one.new.plan; pure = c.plan_one.new.pure; low = c.plan_one.new.low; moment = c.plan_one.new.moment }) c.loop-count.invariant.long c.loop-count.invariant.quiet c.loop-count.invariant.none c.if-not-plan_one.ensures c.index-moments-count-in-loop-count.result (c.fails.ensures.fails c.if-fails.true)

pub loop-count-preserved : goal.loop-count-preserved
loop-count-preserved g c =
    let within : c.loop-count.count < length c.loop-count.moments = search rules in
    record {
      long = long_more c.args.model.now (record { plan = g.P.TickSource.planned c.args.plan.now; pure = c.args.pure.now; low = c.args.low.now; moments = c.args.moments.now })
          (record { plan = g.P.TickSource.planned c.loop-count.plan; pure = c.loop-count.pure; low = c.loop-count.low; moments = c.loop-count.moments }) c.loop-count.count c.loop-count.invariant.plans
          within c.index-moments-count.result (record { plan = g.P.TickSource.planned c.plan_one.new.plan; pure = c.plan_one.new.pure; low = c.plan_one.new.low; moment = c.plan_one.new.moment }) c.loop-count.invariant.long c.loop-count.invariant.quiet c.loop-count.invariant.none;
      plans = plans_more c.args.model.now (record { plan = g.P.TickSource.planned c.args.plan.now; pure = c.args.pure.now; low = c.args.low.now; moments = c.args.moments.now })
          (record { plan = g.P.TickSource.planned c.loop-count.plan; pure = c.loop-count.pure; low = c.loop-count.low; moments = c.loop-count.moments }) c.loop-count.count c.loop-count.invariant.plans
          within c.index-moments-count.result (record { plan = g.P.TickSource.planned c.plan_one.new.plan; pure = c.plan_one.new.pure; low = c.plan_one.new.low; moment = c.plan_one.new.moment }) c.if-not-plan_one.ensures;
      quiet = quiet_more c.args.model.now (record { plan = g.P.TickSource.planned c.args.plan.now; pure = c.args.pure.now; low = c.args.low.now; moments = c.args.moments.now })
          (record { plan = g.P.TickSource.planned c.loop-count.plan; pure = c.loop-count.pure; low = c.loop-count.low; moments = c.loop-count.moments }) c.loop-count.count c.loop-count.invariant.plans
          within c.index-moments-count.result (record { plan = g.P.TickSource.planned c.plan_one.new.plan; pure = c.plan_one.new.pure; low = c.plan_one.new.low; moment = c.plan_one.new.moment }) c.loop-count.invariant.long c.loop-count.invariant.quiet c.loop-count.invariant.none c.index-moments-count-in-loop-count.result (c.fails.ensures.quiet c.if-fails.false);
      none = none_more c.args.model.now (record { plan = g.P.TickSource.planned c.args.plan.now; pure = c.args.pure.now; low = c.args.low.now; moments = c.args.moments.now })
          (record { plan = g.P.TickSource.planned c.loop-count.plan; pure = c.loop-count.pure; low = c.loop-count.low; moments = c.loop-count.moments }) c.loop-count.count c.loop-count.invariant.plans
          within c.index-moments-count.result (record { plan = g.P.TickSource.planned c.plan_one.new.plan; pure = c.plan_one.new.pure; low = c.plan_one.new.low; moment = c.plan_one.new.moment }) c.loop-count.invariant.long c.loop-count.invariant.quiet c.loop-count.invariant.none c.if-not-plan_one.ensures;
    }

pub returns-clause-plans : goal.returns-clause-plans
returns-clause-plans g c =
    let past = c.loop-count-test.false in
    let end = c.loop-count.auto.count-end in
    let long = c.loop-count.invariant.long in
    let all : c.loop-count.count ≡ length c.loop-count.moments = omega (arith, past, end, long) in
    subst (Plans c.args.model.now (record { plan = g.P.TickSource.planned c.args.plan.now; pure = c.args.pure.now; low = c.args.low.now; moments = c.args.moments.now }) (record { plan = g.P.TickSource.planned c.loop-count.plan; pure = c.loop-count.pure; low = c.loop-count.low; moments = c.loop-count.moments })) all c.loop-count.invariant.plans

pub returns-clause-ends : goal.returns-clause-ends
returns-clause-ends g c =
    let past = c.loop-count-test.false in
    let end = c.loop-count.auto.count-end in
    let long = c.loop-count.invariant.long in
    let all : c.loop-count.count ≡ length c.loop-count.moments = omega (arith, past, end, long) in
    ends_full (record { plan = g.P.TickSource.planned c.args.plan.now; pure = c.args.pure.now; low = c.args.low.now; moments = c.args.moments.now }) (record { plan = g.P.TickSource.planned c.loop-count.plan; pure = c.loop-count.pure; low = c.loop-count.low; moments = c.loop-count.moments }) c.loop-count.invariant.long
    (λ j moment lt. c.loop-count.invariant.quiet j moment (omega (arith, lt, all))) (λ over. let none = c.loop-count.invariant.none over in (sym all ∙ none.0, none.1))
