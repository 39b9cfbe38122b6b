-- The models that tables are read for are flat models.
use Rattle.std.proofs.Common.{◌≡◌, ◌≢◌, ap, sym, subst, ℕ, zero, suc, ◌<◌, [], ◌∷◌, length, get_or, arith}
use Rattle.flat_model.specs.declared.model.FlatModel.{FlatModel}
use Rattle.flat_model.specs.declared.model.FlatName.{FlatName}
use Rattle.flat_model.specs.Models.{IsName, AreNames, IsModel}

names_apart : (a b : FlatName) → IsName a → IsName b → a.text ≢ b.text → AreNames (a ∷ (b ∷ []))
names_apart a b first second apart = record { few = omega arith; each = each; apart = pairs }
  where
    each : (k : ℕ) (d : FlatName) → k < 2 → IsName (get_or (a ∷ (b ∷ [])) k d)
    each zero d less = first
    each (suc zero) d less = second
    each (suc (suc k)) d less = absurd (omega arith)

    pairs : (i j : ℕ) (d : FlatName) → i < j → j < 2 → (get_or (a ∷ (b ∷ [])) i d).text ≢ (get_or (a ∷ (b ∷ [])) j d).text
    pairs zero zero d less within = absurd (omega arith)
    pairs zero (suc zero) d less within = apart
    pairs zero (suc (suc j)) d less within = absurd (omega arith)
    pairs (suc i) zero d less within = absurd (omega arith)
    pairs (suc i) (suc zero) d less within = absurd (omega arith)
    pairs (suc i) (suc (suc j)) d less within = absurd (omega arith)

-- a model with no equations
pub without_equations : (model : FlatModel) → AreNames model.names → model.equations ≡ [] → model.clauses ≡ [] → IsModel model
without_equations model names equations clauses = record {
  names = names;
  few = let none : length model.equations ≡ 0 = ap length equations in omega (arith, none);
  typed = record {
    equations = λ k d less. absurd (omega (arith, ap length equations));
    clauses = λ k d less. absurd (omega (arith, ap length clauses));
  };
  counters = record {
    equations = λ k d less. absurd (omega (arith, ap length equations));
    clauses = λ k d less. absurd (omega (arith, ap length clauses));
  };
  arguments = record {
    equations = λ k d less. absurd (omega (arith, ap length equations));
    clauses = λ k d less. absurd (omega (arith, ap length clauses));
  };
  clauses = record {
    below = λ k d less. absurd (omega (arith, ap length equations));
    used = λ c less. absurd (omega (arith, ap length clauses));
  };
}

-- a model of two names with no equations
pub two_names : (model : FlatModel) (a b : FlatName) → model.names ≡ a ∷ (b ∷ []) → model.equations ≡ [] → model.clauses ≡ [] → IsName a → IsName b → a.text ≢ b.text → IsModel model
two_names model a b names equations clauses first second apart = without_equations model (subst AreNames (sym names) (names_apart a b first second apart)) equations clauses
