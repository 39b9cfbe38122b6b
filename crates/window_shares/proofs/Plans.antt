-- A plan at a moment of an assignment.
use Rattle.std.proofs.Common.{◌≡◌, refl, ap, ◌∙◌, sym, ℕ, zero, suc, ◌+◌, false, ◌&&◌, List, [], ◌∷◌, length, drop, None, slice_get, unwrap_or, if◌then◌else◌}
use Rattle.flat_model.specs.Assignment.{Assignment}
use Rattle.flat_model.specs.Moments.{moment_at}
use Rattle.flat_model.specs.Setting.{Setting, answer_in, unclocked_views, site_answer, is_true, is_false, rises, risings_before}
use Rattle.tick_plan.specs.Plans.{Planned, moments_of}
use Rattle.run_moments.specs.Moving.{IsPlanAt}

-- f of the place of each element
numbered : {A B : Type 0} → (ℕ → B) → List A → List B
numbered f [] = []
numbered f (x ∷ xs) = f 0 ∷ numbered (λ i. f (suc i)) xs

numbered_long : {A B : Type 0} (f : ℕ → B) (xs : List A) → length (numbered f xs) ≡ length xs
unfolding numbered
numbered_long f [] = refl
numbered_long f (x ∷ xs) = ap suc (numbered_long (λ i. f (suc i)) xs)

numbered_at : {A B : Type 0} (f : ℕ → B) (d : B) (xs : List A) (i : ℕ) → (slice_get xs i ≡ None → f i ≡ d) → unwrap_or (slice_get (numbered f xs) i) d ≡ f i
unfolding numbered
numbered_at f d [] i none = sym (none refl)
numbered_at f d (x ∷ xs) zero none = refl
numbered_at f d (x ∷ xs) (suc i) none = numbered_at (λ j. f (suc j)) d xs i none

module _ (s : Setting) (S : Assignment) (site : ℕ) (none : slice_get s.clocking.sites site ≡ None) where
  -- a site that is not there never rises
  rises_never : (m : ℕ) → rises s S site m ≡ false
  rises_never zero = refl
  rises_never (suc m) = ap (λ o. is_true (answer_in (unclocked_views S (suc m)) o) && is_false (site_answer s S site m)) none

  risings_never : (m : ℕ) → risings_before s S site m ≡ 0
  risings_never zero = refl
  risings_never (suc m) = ap (λ b. if b then risings_before s S site m + 1 else risings_before s S site m) (rises_never m) ∙ risings_never m

-- there is a plan at each moment of an assignment
pub plan_there : (s : Setting) (S : Assignment) (m : ℕ) → (plan : Planned) × IsPlanAt s S m plan
plan_there s S m = (
  record {
    clocks = s.clocking.clocks;
    ahead = drop (suc m) (moments_of s.instants);
    given = moment_at s.instants m;
    risings = numbered (λ site. risings_before s S site m) s.clocking.sites;
    noted = numbered (λ site. rises s S site m) s.clocking.sites;
  },
  record {
    clocks = refl;
    given = refl;
    ahead = refl;
    sites = numbered_long (λ site. rises s S site m) s.clocking.sites ∙ sym (numbered_long (λ site. risings_before s S site m) s.clocking.sites);
    own = numbered_long (λ site. rises s S site m) s.clocking.sites;
    risings = λ site. numbered_at (λ i. risings_before s S i m) 0 s.clocking.sites site (λ none. risings_never s S site none m);
    noted = λ site. numbered_at (λ i. rises s S i m) false s.clocking.sites site (λ none. rises_never s S site none m);
  },
)
