-- A clock that ticks is known to tick, and a site whose reads are the same answers the same.
use Rattle.std.proofs.Common.{◌≡◌, refl, sym, ℕ, zero, suc, Bool, true, false, Option, Some, None, slice_get}
use Rattle.std.proofs.lemmas.Bool.{false≢true, and_parts}
use Rattle.sync_values.specs.declared.value.Value.TheVariants as value
use Rattle.flat_model.specs.declared.clock.Clock.{Clock}
use Rattle.flat_model.specs.declared.clock.Clock.TheVariants.{Periodic, Event}
use Rattle.flat_model.specs.declared.clock.Moment.{Moment}
use Rattle.flat_model.specs.declared.clock.Moment.TheVariants.{Initial, At}
use Rattle.flat_model.specs.Operators.{Answer, Is, Fails, Absent}
use Rattle.flat_model.specs.Moments.{moment_at}
use Rattle.flat_model.specs.Assignment.{Assignment}
use Rattle.flat_model.specs.Setting.{Setting, site_answer, is_true, rises, clock_ticks, class_ticks, ticks_in}
use Rattle.flat_model.specs.Given.{IsKnownOf, IsKnown}
use Rattle.flat_model.proofs.OneSolution.{AreSitesUnclocked}
use Rattle.flat_model.proofs.Asks.{above_both}
use Rattle.flat_model.specs.Uses.{SiteReads}
use Rattle.moment_theory.proofs.Rows.{below_same}
use Rattle.flat_model.proofs.Sites.{SameSiteOf, site_up}

pub site_same : (s : Setting) (S T : Assignment) (m : ℕ) (class : Option ℕ) → AreSitesUnclocked s → ((y : ℕ) → SiteReads s class y → S y m ≡ T y m) → SameSiteOf s S T m class
site_same s S T m class unclocked same site factor shift e = above_both _ _
    (site_up s S T site m unclocked (λ condition y f some. below_same _ _ (same y (site, factor, shift, condition, e, f, some))))
    (site_up s T S site m unclocked (λ condition y f some. below_same _ _ (sym (same y (site, factor, shift, condition, e, f, some)))))

true_is : (a : Answer) → is_true a ≡ true → a ≡ Is (value.Bool true)
true_is (Is (value.Bool true)) h = refl
true_is (Is (value.Bool false)) h = absurd (false≢true h)
true_is (Is (value.Int z)) h = absurd (false≢true h)
true_is (Fails kind) h = absurd (false≢true h)
true_is Absent h = absurd (false≢true h)

rises_known : (s : Setting) (S : Assignment) (site m : ℕ) → rises s S site m ≡ true → (b : Bool) × (site_answer s S site m ≡ Is (value.Bool b))
rises_known s S site zero h = absurd (false≢true h)
rises_known s S site (suc m) h = (true, true_is (site_answer s S site (suc m)) (and_parts _ _ h).0)

clock_known : (s : Setting) (S : Assignment) (m : ℕ) (moment : Option Moment) (clock : Clock) → clock_ticks s S m moment clock ≡ true → IsKnownOf s S m (Some clock)
clock_known s S m moment (Periodic period start) h = tt
clock_known s S m None (Event site f g) h = absurd (false≢true h)
clock_known s S m (Some Initial) (Event site f g) h = absurd (false≢true h)
clock_known s S m (Some (At t)) (Event site f g) h = rises_known s S site m (and_parts _ _ (and_parts _ _ h).0).0

known_in : (s : Setting) (S : Assignment) (m : ℕ) (clock : Option Clock) → ticks_in s S m clock ≡ true → IsKnownOf s S m clock
known_in s S m None h = tt
known_in s S m (Some clock) h = clock_known s S m (moment_at s.instants m) clock h

pub known_where_ticks : (s : Setting) (S : Assignment) (m : ℕ) (class : Option ℕ) → class_ticks s S class m ≡ true → IsKnown s S m class
known_where_ticks s S m None h = tt
known_where_ticks s S m (Some class) h = known_in s S m (slice_get s.clocking.clocks class) h
