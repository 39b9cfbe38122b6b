-- What a group of names and classes does rests on that group alone, at every moment.
use Rattle.std.proofs.Common.{◌≡◌, refl, ap, ap₂, sym, ℕ, zero, suc, ◌+◌, ◌-◌, ◌<◌, ◌≤◌, ◌%◌, ◌==◌, ◌&&◌, nat_le, Bool, true, false, is_none, Option, Some, None, slice_get, if◌then◌else◌, arith}
use Rattle.sync_values.specs.declared.value.Value.{Value}
use Rattle.flat_model.specs.declared.clock.Clock.{Clock}
use Rattle.flat_model.specs.declared.clock.Clock.TheVariants.{Periodic, Event}
use Rattle.flat_model.specs.declared.clock.Moment.{Moment}
use Rattle.flat_model.specs.declared.clock.Moment.TheVariants.{Initial, At}
use Rattle.flat_model.specs.declared.expression.Expr.{Expr}
use Rattle.flat_model.specs.Views.{Length}
use Rattle.flat_model.specs.Meaning.{value_of}
use Rattle.flat_model.specs.Moments.{moment_at}
use Rattle.flat_model.specs.Assignment.{Assignment, tick_before, previous_value}
use Rattle.flat_model.specs.Setting.{Setting, class_of_name, clock_of, start_of, site_answer, is_true, is_false, rises, risings_before, clock_ticks, class_ticks, name_ticks, time_between, interval_at, views_at, ticks_in}
use Rattle.flat_model.proofs.Agreement.{tick_before_same, previous_same}
use Rattle.flat_model.proofs.OneSolution.{AreSitesUnclocked}
use Rattle.flat_model.specs.Asks.{Asking, OfNow, OfLast, OfPrevious, OfFirst, OfInterval, asked}
use Rattle.flat_model.proofs.Asks.{SameAt, value_rests_on_asked, above_both}
use Rattle.flat_model.specs.Uses.{SiteReads}
use Rattle.moment_theory.specs.Groups.{AgreeOnUpTo, IsWithin}
use Rattle.moment_theory.proofs.Rows.{below_same}
use Rattle.flat_model.proofs.Sites.{site_up}

rises_local : (s : Setting) (S T : Assignment) (site k : ℕ) → ((j : ℕ) → j ≤ k → site_answer s S site j ≡ site_answer s T site j) → rises s S site k ≡ rises s T site k
rises_local s S T site zero same = refl
rises_local s S T site (suc k) same = ap₂ (λ now earlier. is_true now && is_false earlier) (same (suc k) (omega arith)) (same k (omega arith))

risings_local : (s : Setting) (S T : Assignment) (site k : ℕ) → ((j : ℕ) → j ≤ k → site_answer s S site j ≡ site_answer s T site j) → risings_before s S site k ≡ risings_before s T site k
risings_local s S T site zero same = refl
risings_local s S T site (suc k) same =
    ap₂ (λ b n. if b then n + 1 else n) (rises_local s S T site k (λ j le. same j (omega (arith, le)))) (risings_local s S T site k (λ j le. same j (omega (arith, le))))

clock_local : (s : Setting) (S T : Assignment) (k : ℕ) (moment : Option Moment) (clock : Clock) → ((site factor shift j : ℕ) → clock ≡ Event site factor shift → j ≤ k → site_answer s S site j ≡ site_answer s T site j)
    → clock_ticks s S k moment clock ≡ clock_ticks s T k moment clock
clock_local s S T k None clock same = refl
clock_local s S T k (Some Initial) clock same = refl
clock_local s S T k (Some (At t)) (Periodic period start) same = refl
clock_local s S T k (Some (At t)) (Event a factor shift) same =
    ap₂ (λ b n. b && nat_le shift n && (n - shift) % factor == 0) (rises_local s S T a k (λ j le. same a factor shift j refl le)) (risings_local s S T a k (λ j le. same a factor shift j refl le))

in_local : (s : Setting) (S T : Assignment) (k : ℕ) (clock : Option Clock) → ((site factor shift j : ℕ) → clock ≡ Some (Event site factor shift) → j ≤ k → site_answer s S site j ≡ site_answer s T site j)
    → ticks_in s S k clock ≡ ticks_in s T k clock
in_local s S T k None same = refl
in_local s S T k (Some clock) same = clock_local s S T k (moment_at s.instants k) clock (λ a f g j e le. same a f g j (ap Some e) le)

pub interval_same : (s : Setting) (f g : ℕ → Bool) (k : ℕ) (clock : Option Clock) → ((j : ℕ) → j < k → f j ≡ g j) → interval_at s f k clock ≡ interval_at s g k clock
interval_same s f g k None same = refl
interval_same s f g k (Some (Periodic period start)) same = refl
interval_same s f g k (Some (Event site factor shift)) same =
    ap (λ o. elim o as (λ _. Length) [ None ↦ record { num = 0; den = 1 } | Some j ↦ time_between (moment_at s.instants j) (moment_at s.instants k) ]) (tick_before_same f g k same)

module _ (s : Setting) (unclocked : AreSitesUnclocked s) (N : ℕ → Bool) (S T : Assignment) (m : ℕ) (same : AgreeOnUpTo N S T m) where
  -- a class whose site reads names of the group alone ticks alike
  pub class_local : (class : Option ℕ) → ((y : ℕ) → SiteReads s class y → N y ≡ true) → (k : ℕ) → k ≤ m → class_ticks s S class k ≡ class_ticks s T class k
  class_local None holds k le = refl
  class_local (Some class) holds k le = in_local s S T k (slice_get s.clocking.clocks class)
      (λ site f g j e less. above_both _ _
      (site_up s S T site j unclocked (λ condition y found some. below_same _ _ (same y j (holds y (site, f, g, condition, e, found, some)) (omega (arith, le, less)))))
      (site_up s T S site j unclocked (λ condition y found some. below_same _ _ (sym (same y j (holds y (site, f, g, condition, e, found, some)) (omega (arith, le, less)))))))

  -- an expression that asks for names of the group alone, in an equation of one of its classes, has one value
  pub value_local : (e : Expr) (class : Option ℕ) → IsWithin s N class e → value_of e (views_at s S class m) ≡ value_of e (views_at s T class m)
  value_local e class within = value_rests_on_asked e _ _ (λ d q some. at_asked d q some)
    where
      at_asked : (d : ℕ) (q : Asking) → 0 < asked e d q → SameAt (views_at s S class m) (views_at s T class m) d q
      at_asked d (OfNow x) some = same x (m - d) (within.now d x some) (omega arith)
      at_asked d (OfLast x) some = let h = within.last d x some in
          previous_same (name_ticks s S x) (name_ticks s T x) (S x) (T x) (start_of s x) (suc (m - d)) (λ j lt. class_local (class_of_name s x) h.clock j (omega (arith, lt))) (λ j lt. same x j h.own (omega (arith, lt)))
      at_asked d (OfPrevious x) some = let h = within.previous d x some in
          previous_same (name_ticks s S x) (name_ticks s T x) (S x) (T x) (start_of s x) (m - d) (λ j lt. class_local (class_of_name s x) h.clock j (omega (arith, lt))) (λ j lt. same x j h.own (omega (arith, lt)))
      at_asked d OfFirst some = ap is_none (tick_before_same (class_ticks s S class) (class_ticks s T class) (m - d) (λ j lt. class_local class within.clock j (omega (arith, lt))))
      at_asked d OfInterval some = interval_same s (class_ticks s S class) (class_ticks s T class) (m - d) (clock_of s class) (λ j lt. class_local class within.clock j (omega (arith, lt)))

-- ---- what a part keeps

-- the last value behind a moment: the value of the moment where the name ticks, else the one before
pub kept_next : (f : ℕ → Bool) (values : ℕ → Option Value) (start : Value) (m : ℕ) → (if f m then values m else previous_value f values start m) ≡ previous_value f values start (suc m)
kept_next f values start m = by_tick (f m) refl
  where
    by_tick : (b : Bool) → f m ≡ b → (if b then values m else previous_value f values start m) ≡ previous_value f values start (suc m)
    by_tick true e = rw e refl
    by_tick false e = rw e refl

-- whether a clock has not ticked yet
pub first_next : (f : ℕ → Bool) (m : ℕ) → (if f m then false else is_none (tick_before f m)) ≡ is_none (tick_before f (suc m))
first_next f m = by_tick (f m) refl
  where
    by_tick : (b : Bool) → f m ≡ b → (if b then false else is_none (tick_before f m)) ≡ is_none (tick_before f (suc m))
    by_tick true e = rw e refl
    by_tick false e = rw e refl

-- the moment of the last tick
pub tick_next : (f : ℕ → Bool) (m : ℕ) → (if f m then Some m else tick_before f m) ≡ tick_before f (suc m)
tick_next f m = refl
