-- A step from a place to the next moment.
use Rattle.std.proofs.Common.{◌≡◌, refl, sym, subst, ap, ◌∙◌, ℕ, List, [], ◌∷◌, map, Option, Some, None}
use Rattle.std.proofs.Props.{props}
use Rattle.rational_time.specs.declared.ratio.Ratio.{Ratio}
use Rattle.flat_model.specs.declared.clock.Clock.{Clock}
use Rattle.flat_model.specs.declared.clock.Moment.{Moment}
use Rattle.flat_model.specs.declared.clock.Moment.TheVariants.{Initial, At}
use Rattle.flat_model.specs.NextInstant.{AreLeft}
use Rattle.flat_model.proofs.InstantsLeft.{next_first, none_left, rest_left}
use Rattle.tick_plan.specs.declared.axis.Axis.{Axis}
use Rattle.tick_plan.specs.declared.course.Course.{Course}
use Rattle.tick_plan.specs.private.Axis.{IsKey, IsPlaced, IsSound}
use Rattle.tick_plan.specs.private.Course.{IsSameCourse, IsWithin, NextIs}
use Rattle.tick_plan.specs.Left.{ahead_of, StepsOn}
use Rattle.tick_plan.proofs.Untold.{lift, known₂}

key_initial : (den limit : ℕ) (period start : Ratio) (key step : ℕ) → IsKey den limit period start None key step → IsKey den limit period start (Some Initial) key step
key_initial den limit period start key step is = record {
  first = is.first;
  every = is.every;
  first_is = is.first_is;
  every_is = is.every_is;
  some = is.some;
  step_is = is.step_is;
  within = is.within;
  tick = is.tick;
  later = tt;
  least = is.least;
}

abbrev pub at_moment : Course → Option Moment → Course
at_moment c given = record { clocks = c.clocks; times = c.times; stop = c.stop; row = c.row; given = given }

placed_initial : (c : Course) (den limit : ℕ) (nodes steps : List ℕ) → IsPlaced (at_moment c None) den limit nodes steps → IsPlaced (at_moment c (Some Initial)) den limit nodes steps
placed_initial c den limit nodes steps is = record {
  tree = is.tree;
  long = is.long;
  grain = is.grain;
  limit_is = is.limit_is;
  rows = record { rising = is.rows.rising; row_is = record { passed = is.rows.row_is.passed; ahead = is.rows.row_is.ahead } };
  leaf = λ j lt. let old = is.leaf j lt in (old.0, old.1, old.2, old.3, key_initial den limit old.1 old.2 _ _ old.4);
  clock = λ i period start of. let old = is.clock i period start of in (old.0, old.1, key_initial den limit period start _ _ old.2);
}

pub sound_initial : (a : Axis) → IsSound a → a.course.given ≡ None → ∥ IsPlaced (at_moment a.course (Some Initial)) a.den a.limit a.nodes.items a.steps.items ∥₁
sound_initial a is given = lift (placed_initial a.course a.den a.limit a.nodes.items a.steps.items)
    (subst (λ g. ∥ IsPlaced (at_moment a.course g) a.den a.limit a.nodes.items a.steps.items ∥₁) given is)

pub left_initial : (clocks : List Clock) (times : List Ratio) (stop : Ratio) (given : Option Moment) (ts : List Ratio) → given ≡ None → ∥ AreLeft clocks times stop given ts ∥₁ → ∥ AreLeft clocks times stop (Some Initial) ts ∥₁
left_initial clocks times stop given ts is left = lift (λ h. record { rising = h.rising; each = h.each; all = h.all }) (subst (λ g. ∥ AreLeft clocks times stop g ts ∥₁) is left)

pub ahead_initial : (given : Option Moment) (ts : List Ratio) → given ≡ None → ahead_of given ts ≡ Initial ∷ ahead_of (Some Initial) ts
ahead_initial given ts is = ap (λ g. ahead_of g ts) is

-- a course before its first moment gives Initial
pub first_step : (c : Course) (ts : List Ratio) → c.given ≡ None → ∥ AreLeft c.clocks c.times c.stop c.given ts ∥₁ → StepsOn c (at_moment c (Some Initial)) ts (Some Initial)
first_step c ts is left = (ts, ahead_initial c.given ts is, refl, record { clocks = refl; times = refl; stop = refl }, ∣ tt {0} ∣₁, left_initial c.clocks c.times c.stop c.given ts is left)

-- no instant is left
pub nothing_left : (c : Course) (g : Moment) (ts : List Ratio) → c.given ≡ Some g → ∥ NextIs c None ∥₁ → ∥ AreLeft c.clocks c.times c.stop c.given ts ∥₁ → ahead_of c.given ts ≡ []
nothing_left c g ts is none left =
    let set : IsSet (List Ratio) = hlevel props in
    let empty : ts ≡ [] = known₂ (set ts []) (λ n l. none_left c.clocks c.times c.stop c.given ts l n) none left in
    ap (λ h. ahead_of h ts) is ∙ ap (λ xs. map (λ t. At t) xs) empty

abbrev pub tail_of : List Ratio → List Ratio
tail_of [] = []
tail_of (t ∷ ts) = ts

with_tail : (t : Ratio) (ts : List Ratio) → ((rest : List Ratio) × (ts ≡ t ∷ rest)) → ts ≡ t ∷ tail_of ts
with_tail t ts first = first.1 ∙ ap (λ xs. t ∷ xs) (sym (ap tail_of first.1))

pub first_left : (c : Course) (t : Ratio) (ts : List Ratio) → ∥ NextIs c (Some t) ∥₁ → ∥ AreLeft c.clocks c.times c.stop c.given ts ∥₁ → ts ≡ t ∷ tail_of ts
first_left c t ts next left =
    let set : IsSet (List Ratio) = hlevel props in
    known₂ (set ts (t ∷ tail_of ts)) (λ n l. with_tail t ts (next_first c.clocks c.times c.stop c.given t ts l n)) next left

pub others_left : (c : Course) (t : Ratio) (ts : List Ratio) → ∥ NextIs c (Some t) ∥₁ → ∥ AreLeft c.clocks c.times c.stop c.given ts ∥₁ → ∥ AreLeft c.clocks c.times c.stop (Some (At t)) (tail_of ts) ∥₁
others_left c t ts next left = lift (λ l. rest_left c.clocks c.times c.stop c.given t (tail_of ts) l) (subst (λ xs. ∥ AreLeft c.clocks c.times c.stop c.given xs ∥₁) (first_left c t ts next left) left)

pub steps_at : (old new : Course) (g : Moment) (t : Ratio) → old.given ≡ Some g → ∥ NextIs old (Some t) ∥₁ → new.given ≡ Some (At t) → IsSameCourse old new
    → (ts : List Ratio) → ∥ AreLeft old.clocks old.times old.stop old.given ts ∥₁ → StepsOn old new ts (Some (At t))
steps_at old new g t is next given same ts left = (
  tail_of ts,
  ap (λ h. ahead_of h ts) is ∙ ap (λ xs. map (λ u. At u) xs) (first_left old t ts next left) ∙ ap (λ h. At t ∷ ahead_of h (tail_of ts)) (sym given),
  given,
  same,
  subst (λ x. ∥ IsWithin x new.stop ∥₁) (sym given) (subst (λ x. ∥ IsWithin (Some (At t)) x ∥₁) (sym same.stop) (lift (λ n. n.due.within) next)),
  subst (λ x. ∥ AreLeft new.clocks new.times new.stop x (tail_of ts) ∥₁) (sym given)
      (subst (λ x. ∥ AreLeft x new.times new.stop (Some (At t)) (tail_of ts) ∥₁) (sym same.clocks)
      (subst (λ x. ∥ AreLeft old.clocks x new.stop (Some (At t)) (tail_of ts) ∥₁) (sym same.times)
      (subst (λ x. ∥ AreLeft old.clocks old.times x (Some (At t)) (tail_of ts) ∥₁) (sym same.stop) (others_left old t ts next left)))),
)
