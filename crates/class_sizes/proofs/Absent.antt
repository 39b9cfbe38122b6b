-- Classes that a file has not.
use Rattle.std.proofs.Common.{◌≡◌, refl, ap, sym, ◌∙◌, ℕ, zero, suc, ◌<◌, ◌≤◌, ◌⊎◌, inl, inr, min, List, [], ◌∷◌, length, Bool, false, arith}
use Rattle.std.specs.List.{sum_by, list_any}
use Rattle.std.proofs.lemmas.Bool.{cases_lt}
use Rattle.std.proofs.lemmas.List.{get_or_past}
use Rattle.mo_parser.specs.declared.tree.ClassDef.{ClassDef}
use Rattle.mo_parser.specs.declared.tree.TreeEq.{TreeEq}
use Rattle.mo_order.specs.Marks.{is_marked}
use Rattle.class_scopes.specs.Types.{class_equations}
use Rattle.instance_totals.specs.Weights.{number_at}

-- a class that is not there has no equations
pub no_equations : (text : List ℕ) (classes : List ClassDef) (class : ℕ) → length classes ≤ class → class_equations text classes class ≡ []
no_equations text [] class past = refl
no_equations text (c ∷ cs) zero past = absurd (omega (arith, past))
no_equations text (c ∷ cs) (suc k) past = no_equations text cs k (omega (arith, past))

module _ (text : List ℕ) (classes : List ClassDef) where
  -- numbers of the classes that are there are those of all
  pub all_counted : (f : TreeEq → ℕ) (most : ℕ) (counts : List ℕ) → length counts ≡ length classes
      → ((class : ℕ) → class < length classes → number_at counts class ≡ min (sum_by f (class_equations text classes class)) most)
      → (class : ℕ) → number_at counts class ≡ min (sum_by f (class_equations text classes class)) most
  all_counted f most counts size each class = by (cases_lt class (length classes))
    where
      by : (class < length classes) ⊎ (length classes ≤ class) → number_at counts class ≡ min (sum_by f (class_equations text classes class)) most
      by (inl within) = each class within
      by (inr past) =
          let none : sum_by f (class_equations text classes class) ≡ 0 = ap (sum_by f) (no_equations text classes class past) in
          let here : number_at counts class ≡ 0 = get_or_past counts class 0 (omega (arith, size, past)) in
          omega (arith, none, here)

  pub all_marked : (test : ℕ → TreeEq → Bool) (marks : List Bool) → length marks ≡ length classes
      → ((class : ℕ) → class < length classes → is_marked marks class ≡ list_any (test class) (class_equations text classes class))
      → (class : ℕ) → is_marked marks class ≡ list_any (test class) (class_equations text classes class)
  all_marked test marks size each class = by (cases_lt class (length classes))
    where
      by : (class < length classes) ⊎ (length classes ≤ class) → is_marked marks class ≡ list_any (test class) (class_equations text classes class)
      by (inl within) = each class within
      by (inr past) = get_or_past marks class false (omega (arith, size, past)) ∙ sym (ap (list_any (test class)) (no_equations text classes class past))
