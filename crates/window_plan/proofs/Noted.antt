-- What is noted of sites at a moment.
use Rattle.std.proofs.Common.{◌≡◌, refl, ap, ap₂, ◌∙◌, ℕ, zero, suc, ◌<◌, ◌&&◌, Bool, true, false, List, [], ◌∷◌, length, Some, slice_get, unwrap_or, arith}
use Rattle.rational_time.specs.declared.ratio.Ratio.{Ratio}
use Rattle.sync_values.specs.declared.value.Value.TheVariants as value
use Rattle.flat_model.specs.declared.clock.Moment.{Moment}
use Rattle.flat_model.specs.declared.clock.Moment.TheVariants.{At}
use Rattle.flat_model.specs.Values.{truth_in}
use Rattle.flat_model.specs.Assignment.{Assignment}
use Rattle.flat_model.specs.Moments.{moment_at}
use Rattle.flat_model.specs.Operators.{Answer, Is, Fails, Absent}
use Rattle.flat_model.specs.Setting.{Setting, site_answer, is_true, is_false, rises}
use Rattle.flat_model.proofs.Agreement.{SameBefore, site_same}
use Rattle.tick_plan.specs.Plans.{Planned}
use Rattle.moment_moves.proofs.Ending.{risings_same}
use Rattle.run_moments.specs.Moving.{IsPlanAt}
use Rattle.site_risings.specs.Risings.{is_high, is_low}

pub high_in : (a : Answer) → is_high (truth_in a) ≡ is_true a
high_in (Is (value.Int z)) = refl
high_in (Is (value.Bool b)) = refl
high_in (Fails kind) = refl
high_in Absent = refl

pub low_in : (a : Answer) → is_low (truth_in a) ≡ is_false a
low_in (Is (value.Int z)) = refl
low_in (Is (value.Bool true)) = refl
low_in (Is (value.Bool false)) = refl
low_in (Fails kind) = refl
low_in Absent = refl

pub fresh_at : (noted : List Bool) (site : ℕ) → site < length noted → unwrap_or (slice_get noted site) false ≡ false → slice_get noted site ≡ Some false
fresh_at [] site lt e = absurd (omega (arith, lt))
fresh_at (b ∷ noted) zero lt e = ap Some e
fresh_at (b ∷ noted) (suc site) lt e = fresh_at noted site (omega (arith, lt)) e

-- behind Initial a moment is an instant
pub later_instant : (ts : List Ratio) (k : ℕ) (at : Moment) → moment_at ts (suc k) ≡ Some at → (t : Ratio) × (moment_at ts (suc k) ≡ Some (At t))
later_instant [] k at e = absurd cc
later_instant (t ∷ ts) zero at e = (t, refl)
later_instant (t ∷ ts) (suc k) at e = later_instant ts k at e

-- what rises at a moment rests on what comes before it, and on the answer of the site
rises_now : (s : Setting) (S T : Assignment) (m : ℕ) → SameBefore S T m → (site : ℕ) → site_answer s S site m ≡ site_answer s T site m → rises s S site m ≡ rises s T site m
rises_now s S T zero same site now = refl
rises_now s S T (suc k) same site now = ap₂ (λ a b. is_true a && is_false b) now (site_same s S T site k k (λ x j le. same x j (omega (arith, le))) (omega arith))

pub moved_plan : (s : Setting) (S T : Assignment) (n : ℕ) (plan : Planned) → SameBefore S T n → ((site : ℕ) → site_answer s S site n ≡ site_answer s T site n) → IsPlanAt s S n plan → IsPlanAt s T n plan
moved_plan s S T n plan same answers is = record {
  clocks = is.clocks;
  given = is.given;
  ahead = is.ahead;
  sites = is.sites;
  own = is.own;
  risings = λ site. is.risings site ∙ risings_same s S T n n same (omega arith) site;
  noted = λ site. is.noted site ∙ rises_now s S T n same site (answers site);
}
