-- The next moment of a plan.
use Rattle.std.proofs.Common.{◌≡◌, ◌≢◌, refl, ap, ◌∙◌, sym, subst, ℕ, zero, suc, Bool, false, List, [], ◌∷◌, length, map, drop, Some, slice_get, unwrap_or, arith}
use Rattle.rational_time.specs.declared.ratio.Ratio.{Ratio}
use Rattle.flat_model.specs.declared.clock.Moment.{Moment}
use Rattle.flat_model.specs.declared.clock.Moment.TheVariants.{Initial, At}
use Rattle.flat_model.specs.Assignment.{Assignment}
use Rattle.flat_model.specs.Moments.{moment_at}
use Rattle.flat_model.specs.Setting.{Setting}
use Rattle.flat_model.specs.Uses.{Use}
use Rattle.tick_plan.specs.Plans.{Planned, moments_of, counted, GoesOn}
use Rattle.moment_body.specs.declared.model.ClockedModel.{ClockedModel}
use Rattle.moment_body.specs.Stages.{Stages}
use Rattle.window_plan.specs.declared.moment.PlannedMoment.{PlannedMoment}
use Rattle.window_plan.specs.declared.taking.PureUses.{PureUses}
use Rattle.window_plan.specs.Drafts.{Draft, IsPlanReady, IsPlanGiven, IsKnownBefore, IsKnownAt, IsDraftOf, CanFill, HasPlanned, Fills, CanPlanOne}

drop_moments : (ts : List Ratio) (n : ℕ) (moment : Moment) (rest : List Moment) → drop n (map (λ t. At t) ts) ≡ moment ∷ rest → moment_at ts (suc n) ≡ Some moment
drop_moments [] zero moment rest e = absurd cc
drop_moments [] (suc n) moment rest e = absurd cc
drop_moments (t ∷ ts) zero moment rest e = let h : At t ≡ moment = cc in ap Some h
drop_moments (t ∷ ts) (suc n) moment rest e = drop_moments ts n moment rest e

first_left : (s : Setting) (n : ℕ) (moment : Moment) (rest : List Moment) → drop n (moments_of s.instants) ≡ moment ∷ rest → moment_at s.instants n ≡ Some moment
first_left s zero moment rest e = let h : Initial ≡ moment = cc in ap Some h
first_left s (suc n) moment rest e = drop_moments s.instants n moment rest e

drop_next : {A : Type 0} (xs : List A) (n : ℕ) (x : A) (rest : List A) → drop n xs ≡ x ∷ rest → drop (suc n) xs ≡ rest
drop_next [] zero x rest e = absurd cc
drop_next [] (suc n) x rest e = absurd cc
drop_next (y ∷ ys) zero x rest e = let h : ys ≡ rest = cc in h
drop_next (y ∷ ys) (suc n) x rest e = drop_next ys n x rest e

none_noted : (noted : List Bool) (site : ℕ) → unwrap_or (slice_get (map (λ b. false) noted) site) false ≡ false
none_noted [] site = refl
none_noted (b ∷ noted) zero = refl
none_noted (b ∷ noted) (suc site) = none_noted noted site

length_cleared : (noted : List Bool) → length (map (λ b. false) noted) ≡ length noted
length_cleared [] = refl
length_cleared (b ∷ noted) = ap suc (length_cleared noted)

length_counted : (risings : List ℕ) (noted : List Bool) → length noted ≡ length risings → length (map (λ b. false) noted) ≡ length (counted risings noted)
length_counted [] [] long = refl
length_counted [] (b ∷ noted) long = absurd (omega (arith, long))
length_counted (n ∷ risings) [] long = absurd (omega (arith, long))
length_counted (n ∷ risings) (b ∷ noted) long = ap suc (length_counted risings noted (omega (arith, long)))

module _ (old taken : Planned) (at : Moment) (low : List Bool) (goes : GoesOn old taken (Some at)) where
  left : old.ahead ≡ at ∷ goes.0
  left = goes.1

  pub some_left : old.ahead ≢ []
  some_left none = let h = sym none ∙ left in absurd cc

  given : (s : Setting) (n : ℕ) → IsPlanReady s n old low → IsPlanGiven s n at taken low
  given s n ready =
      let here = first_left s n at goes.0 (sym ready.ahead ∙ left) in
      subst (λ p. IsPlanGiven s n at p low) (sym goes.2) (record {
        here = here;
        clocks = ready.clocks;
        given = sym here;
        ahead = sym (drop_next (moments_of s.instants) n at goes.0 (sym ready.ahead ∙ left));
        sites = length_counted old.risings old.noted ready.sites;
        own = length_cleared old.noted ∙ ready.own;
        fresh = none_noted old.noted;
        lows = ready.lows;
      })

  known : (s : Setting) (S : Assignment) (n : ℕ) → IsKnownBefore s S n old low → IsKnownAt s S n taken low
  known s S n before = subst (λ p. IsKnownAt s S n p low) (sym goes.2) (record { risings = before.risings; were_low = before.were_low })

  module _ (model : ClockedModel) (pure : PureUses) (moment : PlannedMoment) where
    abbrev before : Draft
    before = record { plan = old; pure = pure; low = low; moment = moment }

    abbrev behind : Draft
    behind = record { plan = taken; pure = pure; low = low; moment = moment }

    same_of : (s : Setting) (uses : List Use) (stages : Stages) → IsDraftOf s uses stages model before → IsDraftOf s uses stages model behind
    same_of s uses stages of = record { staged = of.staged; model_is = of.model_is; pure = of.pure; few = of.few; few_classes = of.few_classes; room = of.room }

    pub may_fill_next : CanPlanOne model before → CanFill model at behind
    may_fill_next (s, uses, stages, n, of, ready) = (s, uses, stages, n, same_of s uses stages of, given s n ready)

    pub fills_next : (new : Draft) → Fills model at behind new → (s : Setting) (uses : List Use) (stages : Stages) (n : ℕ) → IsDraftOf s uses stages model before → IsPlanReady s n old low
        → HasPlanned s uses stages (λ S. IsKnownBefore s S n old low) n new
    fills_next new fills s uses stages n of ready =
        let has = fills s uses stages n (same_of s uses stages of) (given s n ready) in record {
          here = has.here;
          room = has.room;
          pure = has.pure;
          ready = has.ready;
          planned = λ S valued knew. has.planned S valued (known s S n knew);
          knows = λ S valued knew. has.knows S valued (known s S n knew);
        }
