-- The laws of the meaning.
use Rattle.std.proofs.Common.{◌≡◌, refl, ap, sym, subst, ◌∙◌, ℕ, ◌+◌, ◌-◌, ◌*◌, ◌/◌, ◌%◌, ◌<◌, ◌≤◌, ◌⊎◌, inl, inr, ◌==◌, nat_le, Bool, true, false, ◌&&◌, Option, Some, None, IsSome, List, slice_get, arith, le-leb, leb-true, eq-eqb, div-add-mod'}
use Rattle.std.proofs.Math.Nat.{mul-mod_left}
use Rattle.std.proofs.lemmas.Bool.{and_from, and_parts, eqb-true, false≢true}
use Rattle.std.proofs.lemmas.Option.{same_Some}
use Rattle.rational_time.specs.declared.ratio.Ratio.{Ratio}
use Rattle.sync_values.specs.declared.value.Value.TheVariants as value
use Rattle.flat_model.specs.declared.clock.Clock.{Clock}
use Rattle.flat_model.specs.declared.clock.Clock.TheVariants.{Event}
use Rattle.flat_model.specs.declared.clock.Conversion.{Conversion}
use Rattle.flat_model.specs.declared.clock.Elapsed.TheVariants.{Between}
use Rattle.flat_model.specs.declared.clock.Moment.{Moment}
use Rattle.flat_model.specs.declared.clock.Moment.TheVariants.{At}
use Rattle.flat_model.specs.declared.expression.Expr.{Expr}
use Rattle.flat_model.specs.declared.expression.Expr.TheVariants.{Read, Hold, Convert, rolls-Hold, rolls-Convert}
use Rattle.flat_model.specs.declared.clock.ClockExpr.TheOpen.{Expr-F}
use Rattle.flat_model.specs.declared.clock.ClockExpr.TheFolds.{fold-roll-Expr}
use Rattle.flat_model.specs.Operators.{Is}
use Rattle.flat_model.specs.Assignment.{Assignment, tick_before}
use Rattle.flat_model.specs.Intervals.{length_of}
use Rattle.flat_model.specs.Moments.{moment_at}
use Rattle.flat_model.specs.Occurrences.{one_if, held_in_level, converted_in_level, bare_count, held_count, converted_count}
use Rattle.flat_model.specs.Given.{IsKnownOf, IsKnown, HasLastValue}
use Rattle.flat_model.specs.Setting.{Setting, clock_of, site_answer, rises, risings_before, clock_ticks, name_ticks, class_of_name, time_between, since, interval_at}
use Rattle.flat_model.specs.Uses.{occurrences}
use Rattle.flat_model.specs.MeaningLaws as law
use Rattle.flat_model.proofs.Levels.{bare_count-Read}

pub event_ticks : law.EventTickLaw
event_ticks s S m t site factor shift some = (there, back)
  where
    there : clock_ticks s S m (Some (At t)) (Event site factor shift) ≡ true → (rises s S site m ≡ true) × ((k : ℕ) × (risings_before s S site m ≡ factor * k + shift))
    there is =
        let outer = and_parts _ _ is in
        let inner = and_parts _ _ outer.0 in
        let late = leb-true shift (risings_before s S site m) inner.1 in
        let none = eqb-true ((risings_before s S site m - shift) % factor) 0 outer.1 in
        (inner.0, ((risings_before s S site m - shift) / factor, omega (arith, late, none, div-add-mod' (risings_before s S site m - shift) factor)))

    back : (rises s S site m ≡ true) × ((k : ℕ) × (risings_before s S site m ≡ factor * k + shift)) → clock_ticks s S m (Some (At t)) (Event site factor shift) ≡ true
    back (up, (k, at)) =
        let far : risings_before s S site m - shift ≡ k * factor = omega (arith, at) in
        and_from _ _ (and_from _ _ up (le-leb shift _ (omega (arith, at)))) (eq-eqb _ 0 (ap (λ q. q % factor) far ∙ mul-mod_left k factor))

pub event_interval : law.EventIntervalLaw
event_interval s ticks m k site factor shift t u before at_k at_m =
    ap (since s m) before ∙ ap (λ o. time_between o (moment_at s.instants m)) at_k ∙ ap (λ o. time_between (Some (At t)) o) at_m

pub event_plan : law.EventPlanLaw
event_plan stop rows site factor shift = refl

pub event_axis : law.EventAxisLaw
event_axis a f g b h k share = share.0

pub known : law.KnownLaw
known s S m class site factor shift clock is = subst (IsKnownOf s S m) clock is

pub last_value : law.LastValueLaw
last_value s S m y ticks (inl rests) = absurd (false≢true (sym rests.1 ∙ ticks))
last_value s S m y ticks (inr is) = is

held_count-Hold : (x y : ℕ) → held_count x (Hold y) ≡ one_if (y == x)
unfolding held_count
held_count-Hold x y = ap (held_count x) (sym (rolls-Hold y)) ∙ fold-roll-Expr (Unit {0}) ℕ (λ _. tt) (held_in_level x) (Expr-F.Hold y)

converted_count-Convert : (conversion : Conversion) (x y : ℕ) → converted_count x (Convert conversion y) ≡ one_if (y == x)
unfolding converted_count
converted_count-Convert conversion x y =
    ap (converted_count x) (sym (rolls-Convert conversion y)) ∙ fold-roll-Expr (Unit {0}) ℕ (λ _. tt) (converted_in_level x) (Expr-F.«Expr::Convert» conversion y)

own : (x : ℕ) → one_if (x == x) ≡ 1
own x = ap one_if (eq-eqb x x refl)

pub held_aside : law.HeldAsideLaw
held_aside x clause solvable =
    omega (arith, solvable.0, bare_count-Read x x ∙ own x, held_count-Hold x x ∙ own x)

pub converted_aside : law.ConvertedAsideLaw
converted_aside x conversion clause solvable =
    omega (arith, solvable.0, bare_count-Read x x ∙ own x, converted_count-Convert conversion x x ∙ own x)

pub site_reads : law.SiteReadsLaw
site_reads s S m site kind condition found fails y reads =
    let same : fails.condition ≡ condition = same_Some _ _ (sym fails.found ∙ found) in
    fails.reads y (subst (λ e. 0 < bare_count y e) (sym same) reads)

pub first_site : law.FirstSiteLaw
first_site s S uses m site other kind k first fails = not_below _ _ (λ lt. first.1 other k lt fails)
  where
    not_below : (a b : ℕ) → (b < a → ⊥) → a ≤ b
    not_below a b never = omega (arith, never)

pub first_equation : law.FirstEquationLaw
first_equation s S uses m i j kind k first fails = not_below _ _ (λ lt. first.2 j k lt fails)
  where
    not_below : (a b : ℕ) → (b < a → ⊥) → a ≤ b
    not_below a b never = omega (arith, never)

pub sites_first : law.SitesFirstLaw
sites_first s S uses m i site kind k first fails = first.1 site k fails
