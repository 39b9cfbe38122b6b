-- A plan before its first moment has all moments of the run before it.
use Rattle.std.proofs.Common.{◌≡◌, sym, subst, ap, ℕ, ◌≤◌, List, length, map, replicate, None, Bool, false, arith}
use Rattle.std.proofs.lemmas.List.{get_or-replicate, length-replicate, length-map}
use Rattle.rational_time.specs.declared.ratio.Ratio.{Ratio}
use Rattle.flat_model.specs.declared.clock.Clock.{Clock}
use Rattle.flat_model.specs.declared.clock.Moment.TheVariants.{At}
use Rattle.flat_model.specs.Plan.{rows_within}
use Rattle.flat_model.specs.NextInstant.{AreLeft}
use Rattle.flat_model.proofs.InstantsExist.{left_are}
use Rattle.tick_plan.specs.declared.course.Course.{Course}
use Rattle.tick_plan.specs.private.Course.{IsWithin}
use Rattle.tick_plan.specs.Left.{HasLeft, HasLeft-prop, AreFew, seen}
use Rattle.tick_plan.specs.NewPlan.{AreFewEnough, IsFirstCourse}
use Rattle.tick_plan.specs.Plans.{IsNewPlan, moments_of}
use Rattle.tick_plan.proofs.FewInstants.{left_exists}
use Rattle.tick_plan.proofs.FirstPlaces.{course_is}

abbrev FirstOf : List Clock → List Ratio → Ratio → Course
FirstOf clocks times stop = record { clocks = clocks; times = times; stop = stop; row = 0; given = None }

-- the instants of a run
instants_of : (clocks : List Clock) (times : List Ratio) (stop : Ratio) → AreFewEnough clocks times stop → (ts : List Ratio) × AreLeft clocks times stop None ts × (length ts ≤ 67108865)
instants_of clocks times stop few =
    let made = left_exists clocks times stop (rows_within times stop) few.is.0 few.is.1 in
    (made.0, made.1, let le = made.2 in let count = few.is.2 in let most = few.few in omega (arith, le, count, most))

-- the instants left of a plan that has none behind it, with no risings
pub new_left : (clocks : List Clock) (times : List Ratio) (stop : Ratio) (sites : ℕ) → AreFewEnough clocks times stop → (c : Course) → IsFirstCourse clocks times stop c → (risings : List ℕ) → risings ≡ replicate sites 0
    → (left : HasLeft c) × AreFew c left.0 risings
new_left clocks times stop sites few c first risings none =
    let made = instants_of clocks times stop few in
    subst (λ x. (left : HasLeft x) × AreFew x left.0 risings) (sym (course_is clocks times stop c first))
    ((made.0, ∣ made.1 ∣₁), subst (λ xs. AreFew (FirstOf clocks times stop) made.0 xs) (sym none) (counts made.0 made.2))
  where
    counts : (ts : List Ratio) → length ts ≤ 67108865 → AreFew (FirstOf clocks times stop) ts (replicate sites 0)
    counts ts le j lt =
        let count = get_or-replicate {A = ℕ} sites j 0 0 (omega (arith, lt, length-replicate {A = ℕ} sites 0)) in
        let long : length (map (λ t. At t) ts) ≡ length ts = length-map ts (λ t. At t) in
        omega (arith, count, long, le)

-- what contracts see of it
pub new_seen : (clocks : List Clock) (times : List Ratio) (stop : Ratio) (sites : ℕ) → AreFewEnough clocks times stop → (c : Course) → IsFirstCourse clocks times stop c → (left : HasLeft c)
    → (risings : List ℕ) (noted : List Bool) → risings ≡ replicate sites 0 → noted ≡ replicate sites false → IsNewPlan clocks times stop sites (seen c left.0 risings noted)
new_seen clocks times stop sites few c first left risings noted none silent =
    let made = instants_of clocks times stop few in
    record {
      instants = made.0;
      are = left_are clocks times stop made.0 made.1;
      plan_is = subst (λ x. (l : HasLeft x) → seen x l.0 risings noted ≡ record { clocks = clocks; ahead = moments_of made.0; given = None; risings = replicate sites 0; noted = replicate sites false })
          (sym (course_is clocks times stop c first)) (λ l. same made.0 l.0 (ap (λ x. x.0) (HasLeft-prop (FirstOf clocks times stop) l (made.0, ∣ made.1 ∣₁)))) left;
    }
  where
    same : (ts us : List Ratio) → us ≡ ts → seen (FirstOf clocks times stop) us risings noted ≡ record { clocks = clocks; ahead = moments_of ts; given = None; risings = replicate sites 0; noted = replicate sites false }
    same ts us is = λ i. record { clocks = clocks; ahead = moments_of (is i); given = None; risings = none i; noted = silent i }

pub first_within : (clocks : List Clock) (times : List Ratio) (stop : Ratio) (c : Course) → IsFirstCourse clocks times stop c → ∥ IsWithin c.given c.stop ∥₁
first_within clocks times stop c first = subst (λ x. ∥ IsWithin x.given x.stop ∥₁) (sym (course_is clocks times stop c first)) ∣ tt {0} ∣₁
