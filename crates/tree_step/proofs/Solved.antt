-- With which value of a name both sides of an equation are one, rests on what the equation asks for; and it is one value.
use Rattle.std.proofs.Common.{◌≡◌, ◌≢◌, refl, ap, sym, subst, ◌∙◌, ℕ, zero, suc, ◌+◌, ◌≤◌, true, false, Bool, if◌then◌else◌, Option, Some, ◌⊎◌, eq-eqb, ne_eqb, inl, inr, arith}
use Rattle.std.proofs.lemmas.Option.{none-some, same_Some}
use Rattle.sync_values.specs.declared.value.Value.{Value}
use Rattle.sync_values.specs.declared.value.Value.TheVariants as value
use Rattle.flat_model.specs.declared.equation.Equation.TheVariants.{Valued}
use Rattle.flat_model.specs.declared.expression.Expr.{Expr}
use Rattle.flat_model.specs.declared.model.NameKind.{NameKind}
use Rattle.flat_model.specs.declared.model.NameKind.TheVariants as kind
use Rattle.flat_model.specs.Asks.{Asking, OfNow, OfLast, OfPrevious, OfFirst, OfInterval, asked}
use Rattle.flat_model.specs.Assignment.{IsOfKind}
use Rattle.flat_model.specs.Meaning.{value_of}
use Rattle.flat_model.specs.Meets.{HasOneValue, HasValueAtTicks}
use Rattle.flat_model.specs.Occurrences.{bare_count, is_reached}
use Rattle.flat_model.specs.Operators.{Is}
use Rattle.flat_model.specs.Views.{Views}
use Rattle.flat_model.proofs.Asks.{SameAt}
use Rattle.flat_model.proofs.Links.{asked_bare}
use Rattle.eq_orient.specs.Solving.{Fits, with_now}
use Rattle.moment_theory.proofs.Alone.{is_formed, alone}
use Rattle.moment_theory.proofs.PartsRest.{same_without}
use Rattle.moment_theory.proofs.Stands.{stands_bare}

fits_of : (k : NameKind) (v : Value) → IsOfKind k v → Fits v
fits_of kind.Integer (value.Int z) h = h
fits_of kind.Integer (value.Bool b) h = absurd h
fits_of kind.Boolean (value.Int z) h = absurd h
fits_of kind.Boolean (value.Bool b) h = tt
fits_of kind.Clock (value.Int z) h = absurd h
fits_of kind.Clock (value.Bool b) h = absurd h

-- a value that a name has where it ticks fits
pub fits_at : (k : NameKind) (b : Bool) (o : Option Value) (v : Value) → o ≡ Some v → HasValueAtTicks k b o → Fits v
fits_at kind.Clock b o v is has = absurd (none-some v (sym has ∙ is))
fits_at kind.Integer false o v is has = absurd (none-some v (sym has ∙ is))
fits_at kind.Boolean false o v is has = absurd (none-some v (sym has ∙ is))
fits_at kind.Integer true o v is (w, at, typed) = fits_of kind.Integer v (subst (IsOfKind kind.Integer) (same_Some w v (sym at ∙ is)) typed)
fits_at kind.Boolean true o v is (w, at, typed) = fits_of kind.Boolean v (subst (IsOfKind kind.Boolean) (same_Some w v (sym at ∙ is)) typed)

same_Is : (a b : Value) → Is a ≡ Is b → a ≡ b
same_Is a b e = cc

module _ (x : ℕ) (views : Views) where
  pub own_now : (v : Value) → (with_now x v views 0).now x ≡ Some v
  own_now v = ap (λ b. if b then Some v else (views 0).now x) (eq-eqb x x refl)

  pub other_now : (v : Value) (y : ℕ) → y ≢ x → (with_now x v views 0).now y ≡ (views 0).now y
  other_now v y other = ap (λ b. if b then Some v else (views 0).now y) (ne_eqb y x other)

  module _ (v w : Value) where
    same_but : (d : ℕ) (q : Asking) → ((d ≡ 0) × (q ≡ OfNow x) → ⊥) → SameAt (with_now x v views) (with_now x w views) d q
    same_but zero (OfNow y) other = other_now v y (λ is. other (refl, ap OfNow is)) ∙ sym (other_now w y (λ is. other (refl, ap OfNow is)))
    same_but zero (OfLast y) other = refl
    same_but zero (OfPrevious y) other = refl
    same_but zero OfFirst other = refl
    same_but zero OfInterval other = refl
    same_but (suc d) (OfNow y) other = refl
    same_but (suc d) (OfLast y) other = refl
    same_but (suc d) (OfPrevious y) other = refl
    same_but (suc d) OfFirst other = refl
    same_but (suc d) OfInterval other = refl

    one_side : (mine other : Expr) → is_reached x mine ≡ true → bare_count x mine + bare_count x other ≤ 1 → is_formed mine ≡ true → (c d : Value)
        → value_of mine (with_now x v views) ≡ Is c → value_of other (with_now x v views) ≡ Is c → value_of mine (with_now x w views) ≡ Is d → value_of other (with_now x w views) ≡ Is d → w ≡ v
    one_side mine other reached few formed c d mine_v other_v mine_w other_w =
        let some = stands_bare x mine reached in
        let count = asked_bare x mine in
        let none : asked other 0 (OfNow x) ≡ 0 = (let same = asked_bare x other in omega (arith, few, some, same)) in
        let values : c ≡ d = same_Is c d (sym other_v ∙ same_without x other (with_now x v views) (with_now x w views) none (λ e q asks but. same_but e q but) ∙ other_w) in
        let names = alone x mine reached (omega (arith, few, count)) formed (with_now x v views) (with_now x w views) (λ e q asks but. same_but e q but) c mine_v (mine_w ∙ ap Is (sym values)) in
        same_Some w v (sym (own_now w) ∙ sym names ∙ own_now v)

    -- no other value of the name makes both sides one
    pub one_value : (left right : Expr) (clause : Option ℕ) → (is_reached x left ≡ true) ⊎ (is_reached x right ≡ true) → bare_count x left + bare_count x right ≤ 1 → (is_formed left ≡ true) × (is_formed right ≡ true)
        → HasOneValue (with_now x v views) (Valued left right clause) → HasOneValue (with_now x w views) (Valued left right clause) → w ≡ v
    one_value left right clause (inl reached) few formed (c, left_v, right_v) (d, left_w, right_w) = one_side left right reached few formed.0 c d left_v right_v left_w right_w
    one_value left right clause (inr reached) few formed (c, left_v, right_v) (d, left_w, right_w) = one_side right left reached (omega (arith, few)) formed.1 c d right_v left_v right_w left_w
