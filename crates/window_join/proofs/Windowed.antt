-- A window of moments, one behind the other.
use Rattle.std.proofs.Common.{◌≡◌, refl, ap, ◌∙◌, sym, subst, ℕ, zero, suc, ◌+◌, ◌-◌, ◌<◌, ◌==◌, true, false, List, length, Option, Some, None, ◌⊎◌, inl, inr, arith}
use Rattle.std.proofs.Math.Path.{fun_ext}
use Rattle.std.proofs.lemmas.Bool.Decides.{eqb_tells, leb_tells}
use Rattle.flat_model.specs.declared.fault.Fault.{Fault}
use Rattle.flat_model.specs.Assignment.{Assignment}
use Rattle.flat_model.specs.Given.{Row, with_row}
use Rattle.flat_model.specs.Setting.{Setting}
use Rattle.flat_model.specs.Uses.{Use}
use Rattle.flat_model.proofs.Agreement.{meets_same}
use Rattle.moment_theory.specs.Going.{AgreeBefore}
use Rattle.first_failure.specs.declared.least.EquationFailing.{EquationFailing}
use Rattle.run_ahead.specs.Ahead.{Window, IsAloneBefore, EndsAt, ShowsFrom, HasRunOn}
use Rattle.site_risings.specs.declared.answers.SiteFailing.{SiteFailing}
use Rattle.moment_moves.specs.Moments.{fault_of, EndsWith}
use Rattle.moment_moves.proofs.Ending.{moment_ends}
use Rattle.moment_body.specs.Stages.{Stages}
use Rattle.window_join.specs.Moments.{windowed, IsRunAt, AreRun}
use Rattle.window_join.specs.Laws.{Closes, Anything}

pub windowed_before : (A : Assignment) (n : ℕ) (rows : ℕ → Row) → AgreeBefore A (windowed A n rows) n
windowed_before A n rows x k lt = elim (leb_tells n k) [
  | inl (e, h) ↦ absurd (omega (arith, h, lt))
  | inr (e, h) ↦ rw e refl
]

pub windowed_row : (A : Assignment) (n : ℕ) (rows : ℕ → Row) (x j : ℕ) → windowed A n rows x (n + j) ≡ rows j x
windowed_row A n rows x j = elim (leb_tells n (n + j)) [
  | inl (e, h) ↦ rw e (ap (λ k. rows k x) (let same : n + j - n ≡ j = omega arith in same))
  | inr (e, h) ↦ absurd (omega (arith, h))
]

-- an assignment with its own row is itself
with_own_row : (U : Assignment) (m : ℕ) → with_row U m (λ x. U x m) ≡ U
with_own_row U m = fun_ext (λ x. fun_ext (λ k. own x k (eqb_tells k m)))
  where
    own : (x k : ℕ) → ((k == m ≡ true) × (k ≡ m)) ⊎ ((k == m ≡ false) × (k ≡ m → ⊥)) → with_row U m (λ y. U y m) x k ≡ U x k
    own x k (inl (e, at)) = rw e (rw at refl)
    own x k (inr (e, at)) = rw e refl

-- what is alone before a moment is so under what agrees with it
alone_moved : (s : Setting) (A U : Assignment) (n : ℕ) → AgreeBefore A U n → IsAloneBefore s A n → IsAloneBefore s U n
alone_moved s A U n agree alone = record {
  meets = λ k lt. meets_same s A U k (λ x j le. agree x j (omega (arith, le, lt))) (alone.meets k lt);
  only = λ k le T meets x j lt. sym (agree x j (omega (arith, lt, le))) ∙ alone.only k le T meets x j lt;
}

module _ (s : Setting) (uses : List Use) (stages : Stages) (U : Assignment) where
  ends : (m : ℕ) (site : Option SiteFailing) (told : Option EquationFailing) (is : IsRunAt s uses stages U m site told) → EndsWith s U m (λ x. U x m) is.plan (fault_of is.at site told)
  ends m site told is = moment_ends s uses stages.pure stages.pieces stages.waiting U m is.at is.base (λ x. U x m) site told is.run is.plan is.plan_at

  pub alone_behind : (A : Assignment) (n count : ℕ) → AgreeBefore A U n → IsAloneBefore s A n → AreRun s uses stages U n count → IsAloneBefore s U (n + count)
  alone_behind A n zero agree alone run = subst (IsAloneBefore s U) (let same : n ≡ n + 0 = omega arith in same) (alone_moved s A U n agree alone)
  alone_behind A n (suc count) agree alone run =
      let before = alone_behind A n count agree alone (λ j lt. run j (omega (arith, lt))) in
      let went = ends (n + count) None None (run count (omega arith) before) in
      subst (IsAloneBefore s U) (let same : suc (n + count) ≡ n + suc count = omega arith in same) (subst (λ S. IsAloneBefore s S (suc (n + count))) (with_own_row U (n + count)) went.0)

  pub fails_first : (m : ℕ) (site : Option SiteFailing) (told : Option EquationFailing) (fault : Fault) → (is : IsRunAt s uses stages U m site told) → fault_of is.at site told ≡ Some fault → EndsWith s U m (λ x. U x m) is.plan (Some fault)
  fails_first m site told fault is told_is = subst (EndsWith s U m (λ x. U x m) is.plan) told_is (ends m site told is)

  -- what is kept is so of U where nothing fails
  module _ (keeps : Setting → Assignment → ℕ → Type 0) where
    abbrev pub KeepsWhereNone : Option Fault → ℕ → Type 0
    KeepsWhereNone None m = keeps s U m
    KeepsWhereNone (Some fault) m = Unit {0}

    closes : (m : ℕ) (fault : Option Fault) → KeepsWhereNone fault m → Closes s uses stages U m fault → EndsAt keeps s U m fault
    closes m None kept closed = kept
    closes m (Some fault) kept (site, told, is, told_is) = fails_first m site told fault is told_is

    pub has_run_on : (A : Assignment) (n : ℕ) (window : Window) → AgreeBefore A U n → IsAloneBefore s A n → AreRun s uses stages U n (length window.moments) → ShowsFrom s U n 0 window
        → (IsAloneBefore s U (n + length window.moments) → KeepsWhereNone window.fault (n + length window.moments) × Closes s uses stages U (n + length window.moments) window.fault)
        → (length window.moments ≡ 0 → window.fault ≡ None → length s.instants < n) → HasRunOn keeps s A n window
    has_run_on A n window agree alone run shows close progress =
        let behind = alone_behind A n (length window.moments) agree alone run in
        let (kept, closed) = close behind in record {
          after = U;
          agrees = agree;
          alone = behind;
          shows = shows;
          ends = closes (n + length window.moments) window.fault kept closed;
          progress = progress;
        }

  nothing_kept : (fault : Option Fault) (m : ℕ) → KeepsWhereNone Anything fault m
  nothing_kept None m = tt
  nothing_kept (Some fault) m = tt

  pub window_run : (A : Assignment) (n : ℕ) (window : Window) → AgreeBefore A U n → IsAloneBefore s A n → AreRun s uses stages U n (length window.moments) → ShowsFrom s U n 0 window
      → (IsAloneBefore s U (n + length window.moments) → Closes s uses stages U (n + length window.moments) window.fault)
      → (length window.moments ≡ 0 → window.fault ≡ None → length s.instants < n) → HasRunOn Anything s A n window
  window_run A n window agree alone run shows close = has_run_on Anything A n window agree alone run shows (λ behind. (nothing_kept window.fault (n + length window.moments), close behind))
