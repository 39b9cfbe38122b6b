-- The first moments of a course, as a window.
use Rattle.std.proofs.Common.{◌≡◌, ◌∙◌, sym, ap, ℕ, zero, suc, ◌+◌, ◌<◌, ◌≤◌, List, [], ◌∷◌, length, take, Some, slice_get, inl, inr, arith}
use Rattle.std.proofs.lemmas.List.{length-drop, length-map, length-take-le}
use Rattle.std.proofs.lemmas.Option.{none-some}
use Rattle.flat_model.specs.declared.clock.Moment.TheVariants.{At}
use Rattle.flat_model.specs.Assignment.{Assignment}
use Rattle.flat_model.specs.Setting.{Setting}
use Rattle.flat_model.specs.Uses.{Use}
use Rattle.moment_body.specs.declared.model.ClockedModel.{ClockedModel}
use Rattle.moment_body.specs.Stages.{Stages, IsModelOf}
use Rattle.share_join.specs.Shares.{Share}
use Rattle.share_moments.specs.Sharing.{share_of, AreShares, uses_beside}
use Rattle.share_moments.proofs.Sharing.{is_share}
use Rattle.share_run.specs.Standing.{Holding, IsShareBefore}
use Rattle.share_run.specs.Taking.{Values}
use Rattle.share_window.specs.Windows.{ArePlanned, IsShareWindow}
use Rattle.side_theory.specs.Typed.{AreValuedBefore}
use Rattle.tick_plan.specs.Plans.{moments_of}
use Rattle.window_plan.specs.declared.moment.PlannedMoment.{PlannedMoment}
use Rattle.window_plan.specs.Moments.{GoesBy}
use Rattle.window_plan.specs.Windows.{Course, HasCourse, EndsSo}

pub took_at : {A : Type 0} (k : ℕ) (xs : List A) (j : ℕ) (x : A) → slice_get (take k xs) j ≡ Some x → (j < k) × (slice_get xs j ≡ Some x)
took_at zero [] j x found = absurd (none-some x found)
took_at zero (y ∷ ys) j x found = absurd (none-some x found)
took_at (suc k) [] j x found = absurd (none-some x found)
took_at (suc k) (y ∷ ys) zero x found = (omega arith, found)
took_at (suc k) (y ∷ ys) (suc j) x found = let (lt, at) = took_at k ys j x found in (omega (arith, lt), at)

pub at_took : {A : Type 0} (k : ℕ) (xs : List A) (j : ℕ) (x : A) → j < k → slice_get xs j ≡ Some x → slice_get (take k xs) j ≡ Some x
at_took k [] j x lt found = absurd (none-some x found)
at_took zero (y ∷ ys) j x lt found = absurd (omega (arith, lt))
at_took (suc k) (y ∷ ys) zero x lt found = found
at_took (suc k) (y ∷ ys) (suc j) x lt found = at_took k ys j x (omega (arith, lt)) found

-- what goes by the first moments goes by those of the course
pub goes_whole : (s : Setting) (S : Assignment) (n : ℕ) (moments : List PlannedMoment) (count j : ℕ) → j ≤ count → GoesBy s S n (take count moments) j → GoesBy s S n moments j
goes_whole s S n moments count j le goes = record { valued = goes.valued; alike = λ i moment lt found. goes.alike i moment lt (at_took count moments i moment (omega (arith, lt, le)) found) }

module _ (s : Setting) (uses : List Use) (stages : Stages) (A : Assignment) (n : ℕ) (course : Course) (count : ℕ) (has : HasCourse s uses stages A n course count) where
  pub planned : ArePlanned s uses stages A n (take count course.moments)
  planned S agrees j moment found goes =
      let (lt, at) = took_at count course.moments j moment found in
      has.planned S agrees j moment lt at (goes_whole s S n course.moments count j (omega (arith, lt)) goes)

  -- nothing is planned where no moment is left
  pub none_left : (old : Course) → EndsSo old course count → 0 < length course.moments → count ≡ 0 → length s.instants < n
  none_left old ends some none = elim (ends.early (omega (arith, some, none))) [
    | inl over ↦
        let ahead = ap length (sym has.ready.ahead ∙ over) in
        let left = length-drop (n + count) (moments_of s.instants) in
        let all = length-map s.instants (λ t. At t) in
        let long : length (moments_of s.instants) ≡ suc (length s.instants) = ap suc all in
        omega (arith, ahead, left, long, none)
    | inr last ↦ absurd (let is = last.is in omega (arith, is, none))
  ]

-- each share may run the first moments, of which none fails before the last
pub share_window : (s : Setting) (uses : List Use) (stages : Stages) (A : Assignment) (n : ℕ) (model : ClockedModel) (old course : Course) (count : ℕ) (shares : List Share) → AreShares s uses stages.pure shares → IsModelOf s model
    → AreValuedBefore s A n → HasCourse s uses stages A n course count → EndsSo old course count
    → (i : ℕ) (h : Holding) (now : Values) → slice_get shares i ≡ Some (share_of h) → IsShareBefore s uses (uses_beside i shares) A n h → length now ≡ length s.model.names
    → IsShareWindow h model (take count course.moments) now s uses stages (uses_beside i shares) A n
share_window s uses stages A n model old course count shares are model_is valued has ends i h now found before wide = record {
  division = is_share s uses stages.pure shares are i (share_of h) found;
  model_is = model_is;
  valued = valued;
  before = before;
  planned = planned s uses stages A n course count has;
  quiet = λ j moment lt at. ends.quiet j moment (let long = length-take-le count course.moments ends.within in omega (arith, lt, long)) (took_at count course.moments j moment at).1;
  wide = wide;
}
