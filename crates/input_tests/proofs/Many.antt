-- The models of names without equations are flat models.
use Rattle.std.proofs.Common.{◌≡◌, ◌∙◌, ap, ℕ, ◌+◌, ◌<◌, ◌≤◌, ◌⊎◌, inl, inr, List, [], ◌∷◌, ◌++◌, length, get_or, arith}
use Rattle.std.proofs.lemmas.Bool.{cases_lt}
use Rattle.std.proofs.lemmas.List.{get_or_push, get_or_append_left}
use Rattle.flat_model.specs.declared.model.FlatModel.{FlatModel}
use Rattle.flat_model.specs.declared.model.FlatName.{FlatName}
use Rattle.flat_model.specs.Models.{IsName, AreNames, IsModel}
use Rattle.input_tests.specs.Longer.{AreLonger}

-- a model with no equations
without_equations : (model : FlatModel) → AreNames model.names → model.equations ≡ [] → model.clauses ≡ [] → IsModel model
without_equations model names equations clauses = record {
  names = names;
  few = let none : length model.equations ≡ 0 = ap length equations in omega (arith, none);
  typed = record {
    equations = λ k d less. absurd (omega (arith, ap length equations));
    clauses = λ k d less. absurd (omega (arith, ap length clauses));
  };
  counters = record {
    equations = λ k d less. absurd (omega (arith, ap length equations));
    clauses = λ k d less. absurd (omega (arith, ap length clauses));
  };
  arguments = record {
    equations = λ k d less. absurd (omega (arith, ap length equations));
    clauses = λ k d less. absurd (omega (arith, ap length clauses));
  };
  clauses = record {
    below = λ k d less. absurd (omega (arith, ap length equations));
    used = λ c less. absurd (omega (arith, ap length clauses));
  };
}

pub one_longer : (names : List FlatName) (n : FlatName) → ((k : ℕ) (d : FlatName) → k < length names → IsName (get_or names k d) × (length (get_or names k d).text ≡ k + 1))
    → IsName n → length n.text ≡ length names + 1
    → (k : ℕ) (d : FlatName) → k < length names + 1 → IsName (get_or (names ++ n ∷ []) k d) × (length (get_or (names ++ n ∷ []) k d).text ≡ k + 1)
one_longer names n each named letters k d within = by (cases_lt k (length names))
  where
    by : (k < length names) ⊎ (length names ≤ k) → IsName (get_or (names ++ n ∷ []) k d) × (length (get_or (names ++ n ∷ []) k d).text ≡ k + 1)
    by (inl less) = rw (get_or_append_left names (n ∷ []) d k less) (each k d less)
    by (inr past) =
        let at : length names ≡ k = omega (arith, past, within) in
        rw (get_or_push names n d k at) (named, letters ∙ ap (λ (i : ℕ). i + 1) at)

longer_apart : (names : List FlatName) → AreLonger names → AreNames names
longer_apart names longer = record {
  few = let few = longer.few in omega (arith, few);
  each = λ k d within. (longer.each k d within).0;
  apart = λ i j d less within same.
      let first = (longer.each i d (omega (arith, less, within))).1 in
      let second = (longer.each j d within).1 in
      let e = ap length same in omega (arith, less, first, second, e);
}

-- a model of such names with no equations
pub many_names : (model : FlatModel) → AreLonger model.names → model.equations ≡ [] → model.clauses ≡ [] → IsModel model
many_names model longer equations clauses = without_equations model (longer_apart model.names longer) equations clauses
