-- The instants that a course leaves, and what contracts see of a plan.
use Rattle.std.specs.Prelude.{◌≡◌, ◌<◌, ◌^◌, ◌+◌, List, [], ◌∷◌, map, ℕ, Bool, Option, Some, None, length, get_or}
use Rattle.rational_time.specs.declared.ratio.Ratio.{Ratio}
use Rattle.flat_model.specs.declared.clock.Moment.{Moment}
use Rattle.flat_model.specs.declared.clock.Moment.TheVariants.{At}
use Rattle.flat_model.specs.NextInstant.{AreLeft}
use Rattle.flat_model.proofs.InstantsOnce.{one_list}
use Rattle.tick_plan.specs.declared.course.Course.{Course}
use Rattle.tick_plan.specs.private.Course.{IsWithin, IsSameCourse}
use Rattle.tick_plan.specs.Plans.{Planned, moments_of}

-- the instants that are left, with a proof that is not shown
abbrev pub HasLeft : Course → Type 0
HasLeft c = (instants : List Ratio) × ∥ AreLeft c.clocks c.times c.stop c.given instants ∥₁

-- there is one such list
pub HasLeft-prop : (c : Course) → IsProp (HasLeft c)
HasLeft-prop c = one_list c.clocks c.times c.stop c.given

-- Initial is left where no moment was given yet
abbrev pub ahead_of : Option Moment → List Ratio → List Moment
ahead_of None instants = moments_of instants
ahead_of (Some m) instants = map (λ t. At t) instants

abbrev pub seen : Course → List Ratio → List ℕ → List Bool → Planned
seen c instants risings noted = record { clocks = c.clocks; ahead = ahead_of c.given instants; given = c.given; risings = risings; noted = noted }

-- a site has risen no more often than there were moments, so that no count grows too large
abbrev pub AreFew : Course → List Ratio → List ℕ → Type 0
AreFew c instants risings = (j : ℕ) → j < length risings → get_or risings j 0 + length (ahead_of c.given instants) < 2 ^ 63

-- how a call moves a course: with None no moment is left and nothing changes
abbrev pub StepsOn : Course → Course → List Ratio → Option Moment → Type 0
StepsOn old new instants None = (ahead_of old.given instants ≡ []) × (new ≡ old)
StepsOn old new instants (Some m) = (rest : List Ratio) × (ahead_of old.given instants ≡ m ∷ ahead_of new.given rest) × (new.given ≡ Some m) × IsSameCourse old new × ∥ IsWithin new.given new.stop ∥₁
    × ∥ AreLeft new.clocks new.times new.stop new.given rest ∥₁
