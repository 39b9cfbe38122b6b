-- A model and its clocking have one order, and one count of rows and ticks with one list of instants.
use Rattle.std.proofs.Common.{refl, ap, [], Ok, Err}
use Rattle.rational_time.specs.declared.ratio.Ratio.{Ratio}
use Rattle.flat_model.specs.declared.clock.Clocking.{Clocking}
use Rattle.flat_model.specs.declared.model.FlatModel.{FlatModel}
use Rattle.flat_model.specs.declared.table.Table.{Table}
use Rattle.flat_model.specs.Setting.{Setting}
use Rattle.flat_model.proofs.OneAnswer.{instants_once}
use Rattle.eq_order.specs.declared.ends.OrderEnd.TheVariants as order
use Rattle.eq_order.proofs.OneAnswer as orders
use Rattle.tick_plan.specs.declared.plan_end.PlanEnd.TheVariants as plan
use Rattle.tick_plan.specs.NewPlan.{IsCounted}
use Rattle.tick_plan.proofs.OneAnswer.{planned_once, few_or_many}
use Rattle.command_answer.specs.Layers.{ordered, counted, timed}
use Rattle.command_answer.specs.Told.{told_order, told_plan}
use Rattle.command_answer.proofs.Joined.{IsOne, IsOnce, layer_one, always_one, none_told, not_memory}

-- a setting of a model and its clocking
abbrev bare : FlatModel → Clocking → Setting
bare flat clocking = record { model = flat; clocking = clocking; table = record { times = []; columns = []; cells = [] }; instants = [] }

pub ordered_one : (flat : FlatModel) (clocking : Clocking) → IsOne (ordered flat clocking)
unfolding ordered
ordered_one flat clocking = layer_one _ _ (λ r s p q t u. orders.answer_law (bare flat clocking) r s (p (bare flat clocking) refl refl) (q (bare flat clocking) refl refl)
    (not_memory told_order order.NoMemory refl r t) (not_memory told_order order.NoMemory refl s u))

counted_once : (clocking : Clocking) (table : Table) (stop : Ratio) → IsOnce (IsCounted clocking.clocks table.times stop) told_plan
counted_once clocking table stop (Ok x) (Ok y) p q t u = refl
counted_once clocking table stop (Ok x) (Err (plan.TooMany n)) p q t u = absurd (few_or_many clocking.clocks table.times stop n p q.0 q.1)
counted_once clocking table stop (Err (plan.TooMany n)) (Ok y) p q t u = absurd (few_or_many clocking.clocks table.times stop n q p.0 p.1)
counted_once clocking table stop (Err (plan.TooMany n)) (Err (plan.TooMany m)) p q t u = ap (λ k. Err (plan.TooMany k)) (planned_once clocking.clocks table.times stop n m p.0 q.0)
counted_once clocking table stop (Err plan.NoMemory) s p q t u = absurd (none_told t.0 t.1)
counted_once clocking table stop r (Err plan.NoMemory) p q t u = absurd (none_told u.0 u.1)

pub counted_one : (clocking : Clocking) (table : Table) (stop : Ratio) → IsOne (counted clocking table stop)
unfolding counted
counted_one clocking table stop = layer_one _ _ (counted_once clocking table stop)

pub timed_one : (clocking : Clocking) (table : Table) (stop : Ratio) → IsOne (timed clocking table stop)
unfolding timed
timed_one clocking table stop = always_one _ (instants_once clocking.clocks table.times stop)
