-- The uses of a model, the given values of a moment and the instants of a run are one.
use Rattle.std.proofs.Common.{◌≡◌, refl, ap₂, ◌∙◌, sym, subst, ℕ, ◌<◌, inl, inr, List, [], ◌∷◌, ◌++◌, Option, Some, None, length, arith}
use Rattle.std.proofs.lemmas.Bool.{cases_lt}
use Rattle.std.proofs.Math.Path.{fun_ext}
use Rattle.std.proofs.lemmas.Option.{same_Some, slice_get_within, slice_get_read, get_or_from_slice_get}
use Rattle.sync_values.specs.declared.value.Value.{Value}
use Rattle.rational_time.specs.declared.ratio.Ratio.{Ratio}
use Rattle.flat_model.specs.declared.clock.Clock.{Clock}
use Rattle.flat_model.specs.Assignment.{Assignment}
use Rattle.flat_model.specs.Given.{Row, IsGiven}
use Rattle.flat_model.specs.Moments.{IsDue, AreInstants}
use Rattle.flat_model.specs.NextInstant.{AreLeft}
use Rattle.flat_model.specs.Setting.{Setting}
use Rattle.flat_model.specs.Uses.{Use, EquationReads, CanReach, IsNextUse, AreUsesAfter, AreUses}
use Rattle.flat_model.proofs.InstantsLeft.{one_left}

least_same : (i j : ℕ) → (i < j → ⊥) → (j < i → ⊥) → i ≡ j
least_same i j up down = elim (cases_lt i j) [
  | inl lt ↦ absurd (up lt)
  | inr ge ↦ elim (cases_lt j i) [
    | inl lt ↦ absurd (down lt)
    | inr le ↦ omega (arith, ge, le)
  ]
]

-- an equation reaches one name
reached_same : (s : Setting) (done : List Use) (i j x y : ℕ) → i ≡ j → CanReach s done i x → CanReach s done j y → x ≡ y
reached_same s done i j x y same a b =
    let here : CanReach s done i y = subst (λ k. CanReach s done k y) (sym same) b in
    sym (a.only y (subst (λ e. EquationReads s i e y) (same_Some here.equation a.equation (sym here.found ∙ a.found)) here.reads) here.unreached)

pub next_once : (s : Setting) (done : List Use) (u v : Use) → IsNextUse s done u → IsNextUse s done v → u ≡ v
next_once s done u v a b =
    let same : u.equation ≡ v.equation = least_same u.equation v.equation (λ lt. b.first u.equation u.name lt a.reaches) (λ lt. a.first v.equation v.name lt b.reaches) in
    let names = reached_same s done u.equation v.equation u.name v.name same a.reaches b.reaches in
    λ k. record { equation = same k; name = names k }

uses_once_after : (s : Setting) (done us vs : List Use) → AreUsesAfter s done us → AreUsesAfter s done vs → us ≡ vs
uses_once_after s done [] [] a b = refl
uses_once_after s done [] (v ∷ vs) a b = absurd (a v.equation v.name b.0.reaches)
uses_once_after s done (u ∷ us) [] a b = absurd (b u.equation u.name a.0.reaches)
uses_once_after s done (u ∷ us) (v ∷ vs) a b =
    let first = next_once s done u v a.0 b.0 in
    let rest = uses_once_after s (done ++ u ∷ []) us vs a.1 (subst (λ w. AreUsesAfter s (done ++ w ∷ []) vs) (sym first) b.1) in
    ap₂ (λ w ws. w ∷ ws) first rest

-- a model has one list of uses
pub uses_once : (s : Setting) (us vs : List Use) → AreUses s us → AreUses s vs → us ≡ vs
uses_once s us vs a b = uses_once_after s [] us vs a b

-- two rows of given values are one
pub given_once : (s : Setting) (S : Assignment) (uses : List Use) (m : ℕ) (a b : Row) → IsGiven s S uses m a → IsGiven s S uses m b → a ≡ b
given_once s S uses m a b one two = fun_ext (λ x. same (a x) (b x) (λ v h. one.least b two.closed x v h) (λ v h. two.least a one.closed x v h))
  where
    same : (o p : Option Value) → ((v : Value) → o ≡ Some v → p ≡ Some v) → ((v : Value) → p ≡ Some v → o ≡ Some v) → o ≡ p
    same None None up down = refl
    same None (Some v) up down = down v refl
    same (Some v) p up down = sym (up v refl)

-- the instants of a run are those left before its first moment
pub instants_left : (clocks : List Clock) (times : List Ratio) (stop : Ratio) (ts : List Ratio) → AreInstants clocks times stop ts → AreLeft clocks times stop None ts
instants_left clocks times stop ts are = record {
  rising = are.rising;
  each = λ j t is. (subst (λ u. IsDue clocks times stop u) (get_or_from_slice_get ts j t t is) (are.due j t (slice_get_within ts j t is)), tt);
  all = λ t due later. let at = are.all t due in (at.0, at.1, slice_get_read ts (length ts) at.0 at.1 refl at.2 (sym at.3), at.4);
}

-- a run has one list of instants
pub instants_once : (clocks : List Clock) (times : List Ratio) (stop : Ratio) (us vs : List Ratio) → AreInstants clocks times stop us → AreInstants clocks times stop vs → us ≡ vs
instants_once clocks times stop us vs a b = one_left clocks times stop None us vs (instants_left clocks times stop us a) (instants_left clocks times stop vs b)
