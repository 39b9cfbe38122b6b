-- Where one more name has the value of its side, views go on to show what is asked for.
use Rattle.std.proofs.Common.{◌≡◌, ◌≢◌, refl, ap, sym, subst, ◌∙◌, ℕ, zero, suc, ◌-◌, ◌<◌, ◌==◌, Bool, true, false, if◌then◌else◌, Option, Some, is_none, List, [], ◌∷◌, eq-eqb, arith}
use Rattle.std.proofs.lemmas.Bool.{eqb-true}
use Rattle.std.proofs.lemmas.Option.{none-some}
use Rattle.sync_values.specs.declared.value.Value.{Value}
use Rattle.flat_model.specs.declared.expression.Expr.{Expr}
use Rattle.flat_model.specs.Asks.{Asking, OfNow, OfLast, OfPrevious, OfFirst, OfInterval}
use Rattle.flat_model.specs.Assignment.{Assignment, tick_before, value_at_tick, last_value}
use Rattle.flat_model.specs.Given.{Row, with_row}
use Rattle.flat_model.specs.Setting.{Setting, class_of_name, clock_of, start_of, class_ticks, name_ticks, views_at}
use Rattle.flat_model.specs.Uses.{SiteReads}
use Rattle.flat_model.specs.Views.{Views}
use Rattle.flat_model.proofs.Agreement.{SameBefore, class_ticks_same, tick_before_same, previous_same, last_same, view_same}
use Rattle.flat_model.proofs.OneSolution.{AreSitesUnclocked}
use Rattle.flat_model.proofs.Sites.{class_ticks_by_site}
use Rattle.moment_theory.specs.Taken.{put}
use Rattle.moment_theory.proofs.Groups.{interval_same}
use Rattle.moment_theory.proofs.Rows.{row_now, row_before, unclocked_at_first}
use Rattle.moment_theory.proofs.Unknown.{site_same}
use Rattle.step_code.specs.Lines.{Line, given}
use Rattle.side_theory.specs.Stretches.{IsSameAt, Shows, AreShown}

same_by : (a b : Views) (d : ℕ) (q : Asking) → a d ≡ b d → IsSameAt a b d q
same_by a b d (OfNow y) e = ap (λ view. view.now y) e
same_by a b d (OfLast y) e = ap (λ view. view.last y) e
same_by a b d (OfPrevious y) e = ap (λ view. view.previous y) e
same_by a b d OfFirst e = ap (λ view. view.first) e
same_by a b d OfInterval e = ap (λ view. view.interval) e

same_on : (a b c : Views) (d : ℕ) (q : Asking) → IsSameAt a b d q → IsSameAt b c d q → IsSameAt a c d q
same_on a b c d (OfNow y) one two = one ∙ two
same_on a b c d (OfLast y) one two = one ∙ two
same_on a b c d (OfPrevious y) one two = one ∙ two
same_on a b c d OfFirst one two = one ∙ two
same_on a b c d OfInterval one two = one ∙ two

-- the value at a tick is the last one
pub at_tick : (ticks : ℕ → Bool) (values : ℕ → Option Value) (start : Value) (m : ℕ) → ticks m ≡ true → last_value ticks values start m ≡ values m
at_tick ticks values start m h = ap (λ b. value_at_tick values start (if b then Some m else tick_before ticks m)) h

module _ (s : Setting) (unclocked : AreSitesUnclocked s) (S : Assignment) (m : ℕ) (row : Row) (class x : ℕ) (v : Value)
    (ticks : class_ticks s (with_row S m row) (Some class) m ≡ true) (clocked : class_of_name s x ≡ Some class) (sites : (c : Option ℕ) (y : ℕ) → SiteReads s c y → y ≢ x) where
  abbrev A : Assignment
  A = with_row S m row

  abbrev B : Assignment
  B = with_row S m (put row x v)

  before : SameBefore A B m
  before y k lt = row_before S m row y k lt ∙ sym (row_before S m (put row x v) y k lt)

  put_other : (y : ℕ) (b : Bool) → y == x ≡ b → y ≢ x → (if b then Some v else row y) ≡ row y
  put_other y true same other = absurd (other (eqb-true y x same))
  put_other y false same other = refl

  other_same : (y : ℕ) → y ≢ x → A y m ≡ B y m
  other_same y other = row_now S m row y ∙ sym (put_other y (y == x) refl other) ∙ sym (row_now S m (put row x v) y)

  pub ticks_same : (c : Option ℕ) → class_ticks s A c m ≡ class_ticks s B c m
  ticks_same c = class_ticks_by_site s A B c m before (site_same s A B m c unclocked (λ y reads. other_same y (sites c y reads)))

  ticks_earlier : (c : Option ℕ) (j : ℕ) → j < m → class_ticks s A c j ≡ class_ticks s B c j
  ticks_earlier c j lt = class_ticks_same s A B c j j (λ y n le. before y n (omega (arith, le, lt))) (omega arith)

  here : m ≡ m - 0
  here = omega arith

  now_on : (views : Views) (y : ℕ) → (views 0).now y ≡ A y (m - 0) → (b : Bool) → y == x ≡ b → (if b then Some v else (views 0).now y) ≡ B y (m - 0)
  now_on views y shows b same = subst (λ k. (if b then Some v else (views 0).now y) ≡ B y k) here
      (by_name b same ∙ sym (row_now S m (put row x v) y))
    where
      by_name : (b : Bool) → y == x ≡ b → (if b then Some v else (views 0).now y) ≡ put row x v y
      by_name true same = ap (λ z. if z then Some v else row y) (sym same)
      by_name false same = shows ∙ subst (λ k. A y k ≡ row y) here (row_now S m row y) ∙ ap (λ z. if z then Some v else row y) (sym same)

  last_on : (views : Views) (y : ℕ) → (views 0).last y ≡ last_value (name_ticks s A y) (A y) (start_of s y) (m - 0) → (b : Bool) → y == x ≡ b
      → (if b then Some v else (views 0).last y) ≡ last_value (name_ticks s B y) (B y) (start_of s y) (m - 0)
  last_on views y shows true same =
      let is : y ≡ x = eqb-true y x same in
      let tick : name_ticks s B y m ≡ true = ap (λ z. class_ticks s B (class_of_name s z) m) is ∙ ap (λ c. class_ticks s B c m) clocked ∙ sym (ticks_same (Some class)) ∙ ticks in
      subst (λ k. Some v ≡ last_value (name_ticks s B y) (B y) (start_of s y) k) here
      (sym (at_tick (name_ticks s B y) (B y) (start_of s y) m tick ∙ row_now S m (put row x v) y ∙ ap (λ z. if z then Some v else row y) same))
  last_on views y shows false same =
      let other : y ≢ x = λ is. not_same is in
      shows ∙ subst (λ k. last_value (name_ticks s A y) (A y) (start_of s y) k ≡ last_value (name_ticks s B y) (B y) (start_of s y) k) here
      (last_same (name_ticks s A y) (name_ticks s B y) (A y) (B y) (start_of s y) m (ticks_same (class_of_name s y)) (λ t. other_same y other)
      (λ j lt. ticks_earlier (class_of_name s y) j lt) (λ j lt. before y j lt))
    where
      not_same : y ≡ x → ⊥
      not_same is = let h : false ≡ true = sym same ∙ eq-eqb y x is in cc

  -- what is the same over the row is so with the value
  pub same_given : (views : Views) (d : ℕ) (q : Asking) → IsSameAt views (views_at s A (Some class) m) d q → IsSameAt (given x v views) (views_at s B (Some class) m) d q
  same_given views zero (OfNow y) shows = now_on views y shows (y == x) refl
  same_given views zero (OfLast y) shows = last_on views y shows (y == x) refl
  same_given views zero (OfPrevious y) shows = shows
      ∙ previous_same (name_ticks s A y) (name_ticks s B y) (A y) (B y) (start_of s y) (m - 0) (λ j lt. ticks_earlier (class_of_name s y) j (omega (arith, lt))) (λ j lt. before y j (omega (arith, lt)))
  same_given views zero OfFirst shows = shows
      ∙ ap is_none (tick_before_same (class_ticks s A (Some class)) (class_ticks s B (Some class)) (m - 0) (λ j lt. ticks_earlier (Some class) j (omega (arith, lt))))
  same_given views zero OfInterval shows = shows
      ∙ interval_same s (class_ticks s A (Some class)) (class_ticks s B (Some class)) (m - 0) (clock_of s (Some class)) (λ j lt. ticks_earlier (Some class) j (omega (arith, lt)))
  same_given views (suc d) q shows =
      same_on (given x v views) (views_at s A (Some class) m) (views_at s B (Some class) m) (suc d) q (back q shows) (by_moment m refl)
    where
      back : (q : Asking) → IsSameAt views (views_at s A (Some class) m) (suc d) q → IsSameAt (given x v views) (views_at s A (Some class) m) (suc d) q
      back (OfNow y) h = h
      back (OfLast y) h = h
      back (OfPrevious y) h = h
      back OfFirst h = h
      back OfInterval h = h

      by_moment : (k : ℕ) → m ≡ k → IsSameAt (views_at s A (Some class) m) (views_at s B (Some class) m) (suc d) q
      by_moment zero at = absurd (none-some class (sym (unclocked_at_first s A (Some class) (subst (λ k. class_ticks s A (Some class) k ≡ true) at ticks))))
      by_moment (suc k) at = same_by (views_at s A (Some class) m) (views_at s B (Some class) m) (suc d) q
          (view_same s A B (Some class) k (m - suc d) (λ y n le. before y n (omega (arith, le, at))) (omega (arith, at)))

  pub shows_on : (side : Expr) (views : Views) → Shows s S m row class side views → Shows s S m (put row x v) class side (given x v views)
  shows_on side views shows d q asks = same_given views d q (shows d q asks)

  pub all_shown : (ls : List Line) (views : Views) → AreShown s S m row class ls views → AreShown s S m (put row x v) class ls (given x v views)
  all_shown [] views shown = tt
  all_shown (l ∷ ls) views shown = (shows_on l.side views shown.0, all_shown ls views shown.1)
