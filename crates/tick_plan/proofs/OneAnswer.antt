-- A run has one count of rows and ticks, one list of instants and one new plan, and a plan or too many ticks, not both.
use Rattle.std.proofs.Common.{◌≡◌, ◌∙◌, sym, ap, ℕ, ◌<◌, ◌⊎◌, ⊎_elim, List, [], ◌∷◌, replicate, false, None, arith}
use Rattle.rational_time.specs.declared.ratio.Ratio.{Ratio}
use Rattle.flat_model.specs.declared.clock.Clock.{Clock}
use Rattle.flat_model.specs.declared.clock.Clock.TheVariants.{Periodic, Event}
use Rattle.flat_model.specs.Plan.{HasTicks, HaveTicks, IsPlanned, plan_limit, rows_within}
use Rattle.flat_model.proofs.OneAnswer.{instants_once}
use Rattle.tick_plan.specs.NewPlan.{AreFewEnough}
use Rattle.tick_plan.specs.Plans.{Planned, IsNewPlan, moments_of}

three : (a b : ℕ) → (a < b) ⊎ ((a ≡ b) ⊎ (b < a))
three a b = grind arith

one_bound : (n m : ℕ) → ((k : ℕ) → k < n → k < m) → ((k : ℕ) → k < m → k < n) → n ≡ m
one_bound n m f g = ⊎_elim (λ lt. let bad = g n lt in absurd (omega (arith, bad))) (λ others. ⊎_elim (λ same. same) (λ lt. let bad = f m lt in absurd (omega (arith, bad))) others) (three n m)

own_once : (stop : Ratio) (rows : ℕ) (clock : Clock) (n m : ℕ) → HasTicks stop rows clock n → HasTicks stop rows clock m → n ≡ m
own_once stop rows (Periodic period start) n m a b = one_bound n m (λ k lt. (b k).1 ((a k).0 lt)) (λ k lt. (a k).1 ((b k).0 lt))
own_once stop rows (Event site factor shift) n m a b = a ∙ sym b

ticks_once : (stop : Ratio) (rows : ℕ) (clocks : List Clock) (n m : ℕ) → HaveTicks stop rows clocks n → HaveTicks stop rows clocks m → n ≡ m
ticks_once stop rows [] n m a b = a ∙ sym b
ticks_once stop rows (clock ∷ clocks) n m a b =
    let own = own_once stop rows clock a.0 b.0 a.2 b.2 in
    let others = ticks_once stop rows clocks a.1 b.1 a.3 b.3 in
    let x = a.4 in let y = b.4 in omega (arith, own, others, x, y)

-- one count of rows and ticks
pub planned_once : (clocks : List Clock) (times : List Ratio) (stop : Ratio) (n m : ℕ) → IsPlanned clocks times stop n → IsPlanned clocks times stop m → n ≡ m
planned_once clocks times stop n m a b = let ticks = ticks_once stop (rows_within times stop) clocks a.0 b.0 a.1 b.1 in let x = a.2 in let y = b.2 in omega (arith, ticks, x, y)

-- not both a plan and too many rows and ticks
pub few_or_many : (clocks : List Clock) (times : List Ratio) (stop : Ratio) (count : ℕ) → AreFewEnough clocks times stop → IsPlanned clocks times stop count → plan_limit < count → ⊥
few_or_many clocks times stop count few is many = let same = planned_once clocks times stop few.count count few.is is in let most = few.few in omega (arith, same, most, many)

-- one new plan
pub new_plan_once : (clocks : List Clock) (times : List Ratio) (stop : Ratio) (sites : ℕ) (p q : Planned) → IsNewPlan clocks times stop sites p → IsNewPlan clocks times stop sites q → p ≡ q
new_plan_once clocks times stop sites p q a b =
    a.plan_is ∙ ap (λ ts. record { clocks = clocks; ahead = moments_of ts; given = None; risings = replicate sites 0; noted = replicate sites false }) (instants_once clocks times stop a.instants b.instants a.are b.are) ∙ sym b.plan_is
