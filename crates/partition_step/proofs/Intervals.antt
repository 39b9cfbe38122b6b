-- What is shown of a class at a moment is so.
use Rattle.std.proofs.Common.{◌≡◌, refl, ap, ap₂, ◌∙◌, sym, subst, ℕ, zero, suc, ◌<◌, Bool, true, false, List, [], ◌∷◌, Option, Some, None, is_none, slice_get, arith}
use Rattle.std.proofs.lemmas.Bool.{false≢true}
use Rattle.std.proofs.lemmas.Option.{none-some, same_Some}
use Rattle.rational_time.specs.declared.ratio.Ratio.{Ratio}
use Rattle.rational_time.specs.Fraction.{Below, AtMost}
use Rattle.rational_time.proofs.Order.{cross_le_trans}
use Rattle.flat_model.specs.declared.clock.Clock.{Clock}
use Rattle.flat_model.specs.declared.clock.Clock.TheVariants.{Periodic, Event}
use Rattle.flat_model.specs.declared.clock.Elapsed.{Elapsed}
use Rattle.flat_model.specs.declared.clock.Moment.{Moment}
use Rattle.flat_model.specs.declared.clock.Moment.TheVariants.{Initial, At}
use Rattle.flat_model.specs.Assignment.{Assignment, tick_before}
use Rattle.flat_model.specs.Intervals.{IsMeasurable}
use Rattle.flat_model.specs.Moments.{IsRising, moment_at}
use Rattle.flat_model.specs.Setting.{Setting, class_ticks, ticks_in, clock_ticks, time_between, since, interval_at}
use Rattle.flat_model.proofs.Agreement.{tick_before_below}
use Rattle.tree_step.specs.Frames.{shown_elapsed, shown_length}
use Rattle.partition_step.specs.Parts.{IsTickedAt}
use Rattle.partition_step.specs.Steps.{AreMeasured}
use Rattle.partition_step.specs.private.Stepping.{elapsed_at}

-- two moments are two
initial_at : (t : Ratio) → Some Initial ≡ Some (At t) → ⊥
initial_at t e = let same : Initial ≡ At t = same_Some Initial (At t) e in absurd cc

at_same : (t u : Ratio) → Some (At t) ≡ Some (At u) → t ≡ u
at_same t u e = let same : At t ≡ At u = same_Some (At t) (At u) e in cc

most_trans : (a b c : Ratio) → AtMost a b → AtMost b c → AtMost a c
most_trans a b c one two = cross_le_trans a.num a.den b.num b.den c.num c.den b.positive one two

-- the first instant is not after a later one
first_most : (t : Ratio) (rest : List Ratio) → IsRising (t ∷ rest) → (k : ℕ) (u : Ratio) → moment_at rest (suc k) ≡ Some (At u) → AtMost t u
first_most t [] rising k u at = absurd (none-some (At u) at)
first_most t (v ∷ rest) rising zero u at =
    let same : v ≡ u = at_same v u at in
    let less : Below t v = rising.0 in
    subst (AtMost t) same (omega (arith, less))
first_most t (v ∷ rest) rising (suc k) u at =
    let less : Below t v = rising.0 in
    most_trans t v u (omega (arith, less)) (first_most v rest rising.1 k u at)

rising_rest : (t : Ratio) (rest : List Ratio) → IsRising (t ∷ rest) → IsRising rest
rising_rest t [] rising = tt
rising_rest t (u ∷ rest) rising = rising.1

-- an instant is not after a later one
pub rising_most : (instants : List Ratio) → IsRising instants → (k m : ℕ) (t u : Ratio) → k < m → moment_at instants k ≡ Some (At t) → moment_at instants m ≡ Some (At u) → AtMost t u
rising_most instants rising zero m t u less one two = absurd (initial_at t one)
rising_most instants rising (suc k) zero t u less one two = absurd (omega (arith, less))
rising_most [] rising (suc k) (suc m) t u less one two = absurd (none-some (At t) one)
rising_most (v ∷ rest) rising (suc zero) (suc zero) t u less one two = absurd (omega (arith, less))
rising_most (v ∷ rest) rising (suc zero) (suc (suc m)) t u less one two = subst (λ w. AtMost w u) (at_same v t one) (first_most v rest rising m u two)
rising_most (v ∷ rest) rising (suc (suc k)) (suc zero) t u less one two = absurd (omega (arith, less))
rising_most (v ∷ rest) rising (suc (suc k)) (suc (suc m)) t u less one two = rising_most rest (rising_rest v rest rising) (suc k) (suc m) t u (omega (arith, less)) one two

-- no class ticks at Initial
in_initial : (s : Setting) (S : Assignment) (m : ℕ) (clock : Option Clock) → moment_at s.instants m ≡ Some Initial → ticks_in s S m clock ≡ false
in_initial s S m None here = refl
in_initial s S m (Some (Periodic period start)) here = ap (λ o. clock_ticks s S m o (Periodic period start)) here
in_initial s S m (Some (Event site factor shift)) here = ap (λ o. clock_ticks s S m o (Event site factor shift)) here

pub rests_at_initial : (s : Setting) (S : Assignment) (m class : ℕ) → moment_at s.instants m ≡ Some Initial → class_ticks s S (Some class) m ≡ false
rests_at_initial s S m class here = in_initial s S m (slice_get s.clocking.clocks class) here

-- so a moment at which one ticks is an instant
pub instant_of : (s : Setting) (S : Assignment) (m class : ℕ) (moment : Moment) → moment_at s.instants m ≡ Some moment → class_ticks s S (Some class) m ≡ true → (at : Ratio) × (moment ≡ At at)
instant_of s S m class Initial here ticks = absurd (false≢true (sym (rests_at_initial s S m class here) ∙ ticks))
instant_of s S m class (At at) here ticks = (at, refl)

-- whether a class ticks for the first time
pub first_is : (s : Setting) (o : Option ℕ) (ticked : Option Ratio) → IsTickedAt s o ticked → is_none ticked ≡ is_none o
first_is s None None keeps = refl
first_is s None (Some t) keeps = absurd keeps
first_is s (Some k) None keeps = absurd keeps
first_is s (Some k) (Some t) keeps = refl

module _ (s : Setting) (m : ℕ) (at : Ratio) (here : moment_at s.instants m ≡ Some (At at)) (ticks : ℕ → Bool) (other : Elapsed) where
  interval_by : (o : Option ℕ) → tick_before ticks m ≡ o → (ticked : Option Ratio) → IsTickedAt s o ticked → (clock : Clock) → shown_length (is_none ticked) (elapsed_at clock ticked (At at) other) ≡ interval_at s ticks m (Some clock)
  interval_by None none None keeps (Periodic period start) = refl
  interval_by None none None keeps (Event site factor shift) = ap (since s m) (sym none)
  interval_by None none (Some t) keeps clock = absurd keeps
  interval_by (Some k) some None keeps clock = absurd keeps
  interval_by (Some k) some (Some t) keeps (Periodic period start) = refl
  interval_by (Some k) some (Some t) keeps (Event site factor shift) = ap₂ time_between (sym keeps) (sym here) ∙ ap (since s m) (sym some)

  -- its interval
  pub interval_is : (ticked : Option Ratio) → IsTickedAt s (tick_before ticks m) ticked → (clock : Clock) → shown_length (is_none ticked) (elapsed_at clock ticked (At at) other) ≡ interval_at s ticks m (Some clock)
  interval_is ticked keeps clock = interval_by (tick_before ticks m) refl ticked keeps clock

  measured_by : AreMeasured s.instants → (o : Option ℕ) → tick_before ticks m ≡ o → (ticked : Option Ratio) → IsTickedAt s o ticked → (clock : Clock) → IsMeasurable (shown_elapsed (is_none ticked) (elapsed_at clock ticked (At at) other))
  measured_by are None none None keeps (Periodic period start) = tt
  measured_by are None none None keeps (Event site factor shift) = (omega arith, are.range m at here, are.range m at here)
  measured_by are None none (Some t) keeps clock = absurd keeps
  measured_by are (Some k) some None keeps clock = absurd keeps
  measured_by are (Some k) some (Some t) keeps (Periodic period start) = tt
  measured_by are (Some k) some (Some t) keeps (Event site factor shift) =
      (rising_most s.instants are.rising k m t at (tick_before_below ticks m k some) keeps here, are.range k t keeps, are.range m at here)

  -- which can be measured
  pub measured_is : AreMeasured s.instants → (ticked : Option Ratio) → IsTickedAt s (tick_before ticks m) ticked → (clock : Clock) → IsMeasurable (shown_elapsed (is_none ticked) (elapsed_at clock ticked (At at) other))
  measured_is are ticked keeps clock = measured_by are (tick_before ticks m) refl ticked keeps clock
