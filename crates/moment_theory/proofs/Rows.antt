-- Rows at a moment, and what a use gives over two of them.
use Rattle.std.proofs.Common.{◌≡◌, ◌≢◌, refl, ap, ◌∙◌, sym, subst, ℕ, ◌<◌, true, Option, Some, None, IsSome, arith, if◌then◌else◌, inl, inr, eq-eqb, ne_eqb}
use Rattle.std.proofs.lemmas.Bool.{cases_eq, false≢true}
use Rattle.sync_values.specs.declared.value.Value.{Value}
use Rattle.sync_values.specs.declared.value.Value.TheVariants as value
use Rattle.flat_model.specs.declared.clock.Clock.{Clock}
use Rattle.flat_model.specs.declared.clock.Clock.TheVariants.{Periodic, Event}
use Rattle.flat_model.specs.declared.expression.Expr.{Expr}
use Rattle.flat_model.specs.Operators.{Is}
use Rattle.flat_model.specs.Meaning.{value_of}
use Rattle.flat_model.specs.Assignment.{Assignment}
use Rattle.flat_model.specs.Occurrences.{converted_count, sample_count}
use Rattle.flat_model.specs.Setting.{Setting, class_of_name, class_of_equation, clock_of, site_answer, class_ticks, name_ticks, views_at}
use Rattle.flat_model.specs.Uses.{ReadsIn, SiteReads}
use Rattle.flat_model.specs.Given.{Row, with_row, with_value, IsKnownOf, IsKnown, IsKnownToTick, HasLastValue, HasReadIn}
use Rattle.flat_model.proofs.Dependence.{AgreeOn, value_rests}
use Rattle.flat_model.proofs.Agreement.{SameBefore, SameNow, views_agree}
use Rattle.flat_model.proofs.OneSolution.{AreSitesUnclocked}
use Rattle.moment_theory.specs.Free.{AsksLastIn}
use Rattle.flat_model.specs.Clocks.{AreOnOneAxis}
use Rattle.flat_model.proofs.Above.{IsBelow}
use Rattle.flat_model.proofs.Sites.{SameSiteOf, class_ticks_by_site, known_same, still_known, meet_where_tick, not_yet}

pub row_now : (S : Assignment) (m : ℕ) (row : Row) (x : ℕ) → with_row S m row x m ≡ row x
row_now S m row x = ap (λ b. if b then row x else S x m) (eq-eqb m m refl)

pub row_before : (S : Assignment) (m : ℕ) (row : Row) → SameBefore (with_row S m row) S m
row_before S m row x k lt = ap (λ b. if b then row x else S x k) (ne_eqb k m (λ e. omega (arith, e, lt)))

pub value_now : (S : Assignment) (m x : ℕ) (v : Value) → with_value S m x v x m ≡ Some v
value_now S m x v = rw (eq-eqb m m refl, eq-eqb x x refl) refl

pub value_other : (S : Assignment) (m x : ℕ) (v : Value) (y : ℕ) → y ≢ x → with_value S m x v y m ≡ S y m
value_other S m x v y other = rw (eq-eqb m m refl, ne_eqb y x other) refl

pub value_before : (S : Assignment) (m x : ℕ) (v : Value) → SameBefore (with_value S m x v) S m
value_before S m x v y k lt = rw (ne_eqb k m (λ e. omega (arith, e, lt))) refl

pub below_refl : (o : Option Value) → IsBelow o o
below_refl None = tt
below_refl (Some v) = refl

pub below_same : (o p : Option Value) → o ≡ p → IsBelow o p
below_same o p e = subst (IsBelow o) e (below_refl o)

below_some : (o p : Option Value) → IsBelow o p → IsSome o → o ≡ p
below_some None p h some = absurd (false≢true some)
below_some (Some v) p h some = sym h

-- a class that is not unclocked does not tick at the first moment
pub unclocked_at_first : (s : Setting) (S : Assignment) (class : Option ℕ) → class_ticks s S class 0 ≡ true → class ≡ None
unclocked_at_first s S None e = refl
unclocked_at_first s S (Some class) e = absurd (not_yet s S class e)

pub known_axis : (s : Setting) (S : Assignment) (m : ℕ) (p q : Option Clock) → AreOnOneAxis p q → IsKnownOf s S m p → IsKnownOf s S m q
known_axis s S m None q axis known = absurd axis
known_axis s S m (Some (Periodic a b)) None axis known = tt
known_axis s S m (Some (Event a f g)) None axis known = tt
known_axis s S m (Some (Periodic a b)) (Some (Periodic c d)) axis known = tt
known_axis s S m (Some (Periodic a b)) (Some (Event c h k)) axis known = absurd axis
known_axis s S m (Some (Event a f g)) (Some (Periodic c d)) axis known = tt
known_axis s S m (Some (Event a f g)) (Some (Event c h k)) axis known = (known.0, subst (λ z. site_answer s S z m ≡ Is (value.Bool known.0)) axis known.1)

-- over two assignments that are the same before m, of which the second has what decides of a use in the first
module _ (s : Setting) (unclocked : AreSitesUnclocked s) (A B : Assignment) (m : ℕ) (same : SameBefore A B m) (i x : ℕ) where
  pub record IsSideUp (e : Expr) : Type 0 where
    pub reads : (y : ℕ) → y ≢ x → ReadsIn s i e y → IsBelow (A y m) (B y m)
    pub sites : (z y : ℕ) → AsksLastIn e z → SiteReads s (class_of_name s z) y → IsBelow (A y m) (B y m)
    pub known : (z : ℕ) → AsksLastIn e z → IsSome (A z m) → IsKnown s A m (class_of_name s z)
    pub not_own : (z : ℕ) → AsksLastIn e z → SiteReads s (class_of_name s z) x → ⊥
    pub own : AsksLastIn e x → ⊥
    pub axis : (z : ℕ) → 0 < converted_count z e → AreOnOneAxis (clock_of s (class_of_equation s i)) (clock_of s (class_of_name s z))
    pub samples : class_of_equation s i ≡ None → 0 < sample_count e → ⊥

  module _ (e : Expr) (up : IsSideUp e) (counts : IsKnownToTick s A m (class_of_equation s i)) where
    -- whether an argument of `hold` or of a conversion ticks is known alike in both
    site_of_last : (z : ℕ) → AsksLastIn e z → IsKnown s A m (class_of_name s z) → SameSiteOf s A B m (class_of_name s z)
    site_of_last z asks known = known_same s A B m (class_of_name s z) unclocked known (λ y r. up.sites z y asks r)

    last_up : (z : ℕ) → AsksLastIn e z → ReadsIn s i e z → z ≢ x → HasLastValue s A m z → HasLastValue s B m z
    last_up z asks reads other (inl (known, not)) =
        let site = site_of_last z asks known in
        inl (still_known s A B m (class_of_name s z) known site, sym (class_ticks_by_site s A B (class_of_name s z) m same site) ∙ not)
    last_up z asks reads other (inr some) = inr (subst IsSome (below_some (A z m) (B z m) (up.reads z other reads) some) some)

    known_of_last : (z : ℕ) → AsksLastIn e z → HasLastValue s A m z → IsKnown s A m (class_of_name s z)
    known_of_last z asks (inl (known, not)) = known
    known_of_last z asks (inr some) = up.known z asks some

    pub read_up : (y : ℕ) → y ≢ x → HasReadIn s A m i e y → HasReadIn s B m i e y
    read_up y other has = record {
      bare = λ some. let v = has.bare some in subst IsSome (below_some (A y m) (B y m) (up.reads y other (inl some)) v) v;
      held = λ some. last_up y (inl some) (inr (inl some)) other (has.held some);
      converted = λ some meet. last_up y (inr some) (inr (inr (some, meet))) other (has.converted some meet);
    }

    -- with the same value of x in both
    module _ (v : Value) where
      abbrev A' : Assignment
      A' = with_value A m x v

      abbrev B' : Assignment
      B' = with_value B m x v

      same' : SameBefore A' B' m
      same' y k lt = value_before A m x v y k lt ∙ same y k lt ∙ sym (value_before B m x v y k lt)

      own_ticks : (S : Assignment) (z : ℕ) → AsksLastIn e z → IsKnown s S m (class_of_name s z) → name_ticks s S z m ≡ name_ticks s (with_value S m x v) z m
      own_ticks S z asks known = class_ticks_by_site s S (with_value S m x v) (class_of_name s z) m (λ y k lt. sym (value_before S m x v y k lt))
          (known_same s S (with_value S m x v) m (class_of_name s z) unclocked known
          (λ y r. below_same _ _ (sym (value_other S m x v y (λ is. up.not_own z asks (subst (SiteReads s (class_of_name s z)) is r))))))

      -- an argument of `hold` or of a conversion of which it is known whether it ticks, and that has a value where it does
      last_same_now : (z : ℕ) → AsksLastIn e z → IsKnown s A m (class_of_name s z) → (name_ticks s A z m ≡ true → IsSome (A z m) × ReadsIn s i e z) → SameNow s A' B' m z
      last_same_now z asks known has =
          let site = site_of_last z asks known in
          let here = own_ticks A z asks known in
          let there = own_ticks B z asks (still_known s A B m (class_of_name s z) known site) in
          let other : z ≢ x = λ is. up.own (subst (AsksLastIn e) is asks) in (
            sym here ∙ class_ticks_by_site s A B (class_of_name s z) m same site ∙ there,
            λ ticks. let h = has (here ∙ ticks) in
                value_other A m x v z other ∙ below_some (A z m) (B z m) (up.reads z other h.1) h.0 ∙ sym (value_other B m x v z other),
          )

      some_of_last : (z : ℕ) → name_ticks s A z m ≡ true → HasLastValue s A m z → IsSome (A z m)
      some_of_last z ticks (inl (known, not)) = absurd (false≢true (sym not ∙ ticks))
      some_of_last z ticks (inr some) = some

      agrees : ((y : ℕ) → y ≢ x → HasReadIn s A m i e y) → AgreeOn e (views_at s A' (class_of_equation s i) m) (views_at s B' (class_of_equation s i) m)
      agrees has = views_agree s A' B' (class_of_equation s i) m e same'
          (λ y some. elim (cases_eq y x) [
            | inl is ↦ subst (λ z. with_value A m x v z m ≡ with_value B m x v z m) (sym is) (value_now A m x v ∙ sym (value_now B m x v))
            | inr other ↦ value_other A m x v y other ∙ below_some (A y m) (B y m) (up.reads y other (inl some)) ((has y other).bare some) ∙ sym (value_other B m x v y other)
          ])
          (λ z some. let other : z ≢ x = λ is. up.own (subst (AsksLastIn e) is (inl some)) in
          let last = (has z other).held some in
          last_same_now z (inl some) (known_of_last z (inl some) last) (λ ticks. (some_of_last z ticks last, inr (inl some))))
          (λ z some. let other : z ≢ x = λ is. up.own (subst (AsksLastIn e) is (inr some)) in
          let axis = up.axis z some in
          last_same_now z (inr some) (known_axis s A m (clock_of s (class_of_equation s i)) (clock_of s (class_of_name s z)) axis counts.0)
          (λ ticks. let meet = meet_where_tick s A m (class_of_equation s i) (class_of_name s z) axis counts.1 ticks in
          (some_of_last z ticks ((has z other).converted some meet), inr (inr (some, meet)))))
          (λ first some. up.samples (unclocked_at_first s A (class_of_equation s i) (subst (λ k. class_ticks s A (class_of_equation s i) k ≡ true) first counts.1)) some)

      pub side_same : ((y : ℕ) → y ≢ x → HasReadIn s A m i e y) → value_of e (views_at s A' (class_of_equation s i) m) ≡ value_of e (views_at s B' (class_of_equation s i) m)
      side_same has = value_rests e _ _ (agrees has)
