-- No use has two solutions at a moment at which it counts.
use Rattle.std.proofs.Common.{◌≡◌, ◌≢◌, ap, ◌∙◌, sym, subst, ℕ, suc, ◌-◌, ◌<◌, ◌≤◌, true, Option, Some, None, arith, inl, inr}
use Rattle.sync_values.specs.declared.value.Value.{Value}
use Rattle.flat_model.specs.declared.equation.Equation.TheVariants.{Valued}
use Rattle.flat_model.specs.declared.expression.Expr.{Expr}
use Rattle.flat_model.specs.Occurrences.{bare_count, is_reached}
use Rattle.flat_model.specs.Operators.{Is}
use Rattle.flat_model.specs.Meaning.{value_of}
use Rattle.flat_model.specs.Assignment.{Assignment}
use Rattle.flat_model.specs.Setting.{Setting, class_of_name, class_of_equation, class_ticks, name_ticks, views_at}
use Rattle.flat_model.specs.Given.{with_value, Solves}
use Rattle.flat_model.specs.Uses.{IsSolvableFor, SiteReads}
use Rattle.flat_model.proofs.Agreement.{SameBefore}
use Rattle.flat_model.proofs.OneSolution.{AreSitesUnclocked}
use Rattle.moment_theory.specs.Free.{AsksLastIn}
use Rattle.flat_model.specs.Asks.{Asking, asked}
use Rattle.flat_model.proofs.Links.{asked_bare}
use Rattle.moment_theory.proofs.PartsRest.{SameBut, same_without}
use Rattle.moment_theory.proofs.Alike.{same_but}
use Rattle.moment_theory.proofs.Alone.{is_formed, alone}
use Rattle.moment_theory.proofs.Rows.{value_now, value_other, value_before, unclocked_at_first}
use Rattle.flat_model.proofs.Sites.{class_ticks_by_site}
use Rattle.moment_theory.proofs.Stands.{stands_bare}
use Rattle.moment_theory.proofs.Unknown.{site_same}

same_value : (v w : Value) → Some v ≡ Some w → v ≡ w
same_value v w e = cc

same_answer : (v w : Value) → Is v ≡ Is w → v ≡ w
same_answer v w e = cc

-- what decides that one side of a use sees the same but for its name
pub record IsSideOnce (s : Setting) (i x : ℕ) (e : Expr) : Type 0 where
  pub own : AsksLastIn e x → ⊥
  pub sites : (z : ℕ) → AsksLastIn e z → SiteReads s (class_of_name s z) x → ⊥
  pub early : class_of_equation s i ≡ None → (d : ℕ) (q : Asking) → 0 < asked e (suc d) q → ⊥
  pub formed : is_formed e ≡ true

module _ (s : Setting) (unclocked : AreSitesUnclocked s) (S : Assignment) (m i x : ℕ) (ticks : class_ticks s S (class_of_equation s i) m ≡ true) (v w : Value) where
  abbrev A : Assignment
  A = with_value S m x v

  abbrev B : Assignment
  B = with_value S m x w

  abbrev class : Option ℕ
  class = class_of_equation s i

  same : SameBefore A B m
  same y k lt = value_before S m x v y k lt ∙ sym (value_before S m x w y k lt)

  other_same : (y : ℕ) → y ≢ x → A y m ≡ B y m
  other_same y other = value_other S m x v y other ∙ sym (value_other S m x w y other)

  ticks_alike : (z : ℕ) → (SiteReads s (class_of_name s z) x → ⊥) → name_ticks s A z m ≡ name_ticks s B z m
  ticks_alike z not = class_ticks_by_site s A B (class_of_name s z) m same
      (site_same s A B m (class_of_name s z) unclocked (λ y reads. other_same y (λ is. not (subst (SiteReads s (class_of_name s z)) is reads))))

  same_side : (e : Expr) → IsSideOnce s i x e → SameBut x (asked e) (views_at s A class m) (views_at s B class m)
  same_side e side = same_but s A B m same i x (λ at. unclocked_at_first s S class (subst (λ k. class_ticks s S class k ≡ true) at ticks)) e (record {
    now = λ y other some. other_same y other;
    ticks = λ y asks. ticks_alike y (side.sites y asks);
    last = λ y asks t. other_same y (λ is. side.own (subst (AsksLastIn e) is asks));
    early = side.early;
  })

  -- the side with the name, where the other side has the same value with both
  one_side : (e : Expr) → IsSideOnce s i x e → is_reached x e ≡ true → bare_count x e ≤ 1 → (c : Value) → value_of e (views_at s A class m) ≡ Is c → value_of e (views_at s B class m) ≡ Is c → v ≡ w
  one_side e side reached few c one two =
      let now = alone x e reached (let same_count = asked_bare x e in omega (arith, few, same_count)) side.formed (views_at s A class m) (views_at s B class m) (same_side e side) c one two in
      let here : A x m ≡ B x m = subst (λ k. A x k ≡ B x k) (let h : m - 0 ≡ m = omega arith in h) now in
      same_value v w (sym (value_now S m x v) ∙ here ∙ value_now S m x w)

  unread : (e : Expr) → IsSideOnce s i x e → bare_count x e ≡ 0 → value_of e (views_at s A class m) ≡ value_of e (views_at s B class m)
  unread e side none = same_without x e _ _ (let same_count = asked_bare x e in omega (arith, none, same_count)) (same_side e side)

  pub one_solution : (left right : Expr) (clause : Option ℕ) → IsSolvableFor x (Valued left right clause) → IsSideOnce s i x left → IsSideOnce s i x right
      → Solves s S m i (Valued left right clause) x v → Solves s S m i (Valued left right clause) x w → v ≡ w
  one_solution left right clause solvable side_left side_right (a, left_a, right_a) (b, left_b, right_b) = elim solvable.1 [
    | inl reached ↦
        let bare = stands_bare x left reached in
        let same_right = unread right side_right (let total = solvable.0 in omega (arith, bare, total)) in
        let results : a ≡ b = same_answer a b (sym right_a ∙ same_right ∙ right_b) in
        one_side left side_left reached (let total = solvable.0 in omega (arith, total)) a left_a (left_b ∙ ap Is (sym results))
    | inr reached ↦
        let bare = stands_bare x right reached in
        let same_left = unread left side_left (let total = solvable.0 in omega (arith, bare, total)) in
        let results : a ≡ b = same_answer a b (sym left_a ∙ same_left ∙ left_b) in
        one_side right side_right reached (let total = solvable.0 in omega (arith, total)) a right_a (right_b ∙ ap Is (sym results))
  ]
