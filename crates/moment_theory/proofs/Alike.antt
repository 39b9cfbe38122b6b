-- Two assignments that are the same before a moment, and there on what an expression reads beside one name, show it the same but for that name.
use Rattle.std.proofs.Common.{◌≡◌, ◌≢◌, refl, ap, sym, subst, ℕ, zero, suc, ◌-◌, ◌<◌, true, Option, None, is_none, arith, inl, inr}
use Rattle.flat_model.specs.declared.expression.Expr.{Expr}
use Rattle.flat_model.specs.Asks.{Asking, OfNow, OfLast, OfPrevious, OfFirst, OfInterval, asked}
use Rattle.flat_model.specs.Assignment.{Assignment}
use Rattle.flat_model.specs.Occurrences.{bare_count, held_count}
use Rattle.flat_model.specs.Setting.{Setting, class_of_name, class_of_equation, clock_of, start_of, class_ticks, name_ticks, view_at, views_at}
use Rattle.flat_model.specs.Views.{View, Views}
use Rattle.flat_model.proofs.Agreement.{SameBefore, class_ticks_same, tick_before_same, previous_same, last_same, view_same}
use Rattle.flat_model.proofs.Asks.{SameAt}
use Rattle.flat_model.proofs.Links.{asked_bare, asked_last}
use Rattle.moment_theory.specs.Free.{AsksLastIn}
use Rattle.moment_theory.proofs.Groups.{interval_same}
use Rattle.moment_theory.proofs.PartsRest.{SameBut}

module _ (s : Setting) (A B : Assignment) (m : ℕ) (same : SameBefore A B m) (i x : ℕ) (first : m ≡ 0 → class_of_equation s i ≡ None) where
  abbrev class : Option ℕ
  class = class_of_equation s i

  ticks_earlier : (c : Option ℕ) (j : ℕ) → j < m → class_ticks s A c j ≡ class_ticks s B c j
  ticks_earlier c j lt = class_ticks_same s A B c j j (λ y n le. same y n (omega (arith, le, lt))) (omega arith)

  at_field : (q : Asking) (a b : View) → a ≡ b → SameAt (λ back. a) (λ back. b) 0 q
  at_field (OfNow y) a b e = ap (λ view. view.now y) e
  at_field (OfLast y) a b e = ap (λ view. view.last y) e
  at_field (OfPrevious y) a b e = ap (λ view. view.previous y) e
  at_field OfFirst a b e = ap (λ view. view.first) e
  at_field OfInterval a b e = ap (λ view. view.interval) e

  at_back : (q : Asking) (a b : Views) (d : ℕ) → SameAt (λ back. a d) (λ back. b d) 0 q → SameAt a b d q
  at_back (OfNow y) a b d h = h
  at_back (OfLast y) a b d h = h
  at_back (OfPrevious y) a b d h = h
  at_back OfFirst a b d h = h
  at_back OfInterval a b d h = h

  -- at an earlier moment nothing differs
  back_same : (k d : ℕ) (q : Asking) → m ≡ suc k → SameAt (views_at s A class m) (views_at s B class m) (suc d) q
  back_same k d q at = at_back q (views_at s A class m) (views_at s B class m) (suc d)
      (at_field q (view_at s A class (m - suc d)) (view_at s B class (m - suc d)) (view_same s A B class k (m - suc d) (λ y n le. same y n (omega (arith, le, at))) (omega (arith, at))))

  -- what is the same of what an expression reads now
  pub record IsAlike (e : Expr) : Type 0 where
    pub now : (y : ℕ) → y ≢ x → 0 < bare_count y e → A y m ≡ B y m
    pub ticks : (y : ℕ) → AsksLastIn e y → name_ticks s A y m ≡ name_ticks s B y m
    pub last : (y : ℕ) → AsksLastIn e y → name_ticks s A y m ≡ true → A y m ≡ B y m
    pub early : class ≡ None → (d : ℕ) (q : Asking) → 0 < asked e (suc d) q → ⊥

  module _ (e : Expr) (alike : IsAlike e) where
    last_here : (y k : ℕ) → k ≡ m → AsksLastIn e y → (view_at s A class k).last y ≡ (view_at s B class k).last y
    last_here y k at asks = subst (λ n. (view_at s A class n).last y ≡ (view_at s B class n).last y) (sym at)
        (last_same (name_ticks s A y) (name_ticks s B y) (A y) (B y) (start_of s y) m (alike.ticks y asks) (alike.last y asks)
        (λ j lt. ticks_earlier (class_of_name s y) j lt) (λ j lt. same y j lt))

    asks_last : (y : ℕ) → 0 < asked e 0 (OfLast y) → AsksLastIn e y
    asks_last y some = by_count (held_count y e) refl
      where
        by_count : (n : ℕ) → held_count y e ≡ n → AsksLastIn e y
        by_count zero none = let total = asked_last y e in inr (omega (arith, some, total, none))
        by_count (suc n) one = inl (omega (arith, one))

    pub same_but : SameBut x (asked e) (views_at s A class m) (views_at s B class m)
    same_but (suc d) q some other = by_moment m refl
      where
        by_moment : (n : ℕ) → m ≡ n → SameAt (views_at s A class m) (views_at s B class m) (suc d) q
        by_moment zero at = absurd (alike.early (first at) d q some)
        by_moment (suc k) at = back_same k d q at
    same_but zero (OfNow y) some other = subst (λ k. A y k ≡ B y k) (let h : m ≡ m - 0 = omega arith in h)
        (alike.now y (λ is. other (refl, ap OfNow is)) (let count = asked_bare y e in omega (arith, some, count)))
    same_but zero (OfLast y) some other = last_here y (m - 0) (omega arith) (asks_last y some)
    same_but zero (OfPrevious y) some other =
        previous_same (name_ticks s A y) (name_ticks s B y) (A y) (B y) (start_of s y) (m - 0) (λ j lt. ticks_earlier (class_of_name s y) j (omega (arith, lt))) (λ j lt. same y j (omega (arith, lt)))
    same_but zero OfFirst some other = ap is_none (tick_before_same (class_ticks s A class) (class_ticks s B class) (m - 0) (λ j lt. ticks_earlier class j (omega (arith, lt))))
    same_but zero OfInterval some other = interval_same s (class_ticks s A class) (class_ticks s B class) (m - 0) (clock_of s class) (λ j lt. ticks_earlier class j (omega (arith, lt)))
