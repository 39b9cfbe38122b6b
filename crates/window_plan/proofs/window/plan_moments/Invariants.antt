use Rattle.std.proofs.Common.{◌≡◌, ◌<◌, ℕ, [], length, slice_get, Some}
use Rattle.window_plan.specs.declared.moment.PlannedMoment.{PlannedMoment}
use Rattle.window_plan.specs.Moments.{IsQuiet}
use Rattle.window_plan.specs.Windows.{Plans}
use Rattle.window_plan.proofs.window.plan_moments.Given as goal

abbrev pub invariant-loop-count : goal.invariant-loop-count
invariant-loop-count g l = record {
  long : length l.moments ≡ length l.fn.moments;
  plans : Plans l.model (record { plan = g.P.TickSource.planned l.fn.plan; pure = l.fn.pure; low = l.fn.low; moments = l.fn.moments }) (record { plan = g.P.TickSource.planned l.plan; pure = l.pure; low = l.low; moments = l.moments }) l.count;
  quiet : (j : ℕ) (moment : PlannedMoment) → j < l.count → slice_get l.moments j ≡ Some moment → IsQuiet moment;
  none : (g.P.TickSource.planned l.fn.plan).ahead ≡ [] → (l.count ≡ 0) × (g.P.TickSource.planned l.plan ≡ g.P.TickSource.planned l.fn.plan);
}
