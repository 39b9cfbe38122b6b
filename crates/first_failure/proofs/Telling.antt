-- The least equation that fails, told step by step.
use Rattle.std.proofs.Common.{◌≡◌, refl, ℕ, ◌⊎◌, inl, inr, Bool, true, false, if◌then◌else◌, Option, Some, None, nat_le, arith}
use Rattle.std.proofs.lemmas.Bool.{leb-true, leb-false}
use Rattle.sync_values.specs.declared.value.Fail.{Fail}
use Rattle.first_failure.specs.declared.least.EquationFailing.{EquationFailing}
use Rattle.first_failure.specs.Careful.{less_of}
use Rattle.first_failure.specs.Turns.{IsLeast}

pub least_same : (P Q : ℕ → Fail → Type 0) → ((i : ℕ) (k : Fail) → P i k → Q i k) → ((i : ℕ) (k : Fail) → Q i k → P i k) → (told : Option EquationFailing) → IsLeast P told → IsLeast Q told
least_same P Q to from None none = λ i k q. none i k (from i k q)
least_same P Q to from (Some failing) (own, none) = (to failing.equation failing.kind own, λ i k less q. none i k less (from i k q))

-- one more failure, of one equation
pub least_more : (P F : ℕ → Fail → Type 0) (other : EquationFailing) → F other.equation other.kind → ((i : ℕ) (k : Fail) → F i k → other.equation ≡ i) → (told : Option EquationFailing) → IsLeast P told
    → IsLeast (λ i k. P i k ⊎ F i k) (Some (less_of told other))
least_more P F other fails only None none = (
  inr fails,
  λ i k less h. elim h [
    | inl p ↦ none i k p
    | inr f ↦ let at = only i k f in omega (arith, less, at)
  ],
)
least_more P F other fails only (Some failing) (own, none) = by_order (nat_le failing.equation other.equation) refl
  where
    by_order : (b : Bool) → nat_le failing.equation other.equation ≡ b → IsLeast (λ i k. P i k ⊎ F i k) (Some (if b then failing else other))
    by_order true le = (
      inl own,
      λ i k less h. elim h [
        | inl p ↦ none i k less p
        | inr f ↦ let at = only i k f in let order = leb-true failing.equation other.equation le in omega (arith, less, at, order)
      ],
    )
    by_order false gt = (
      inr fails,
      λ i k less h. elim h [
        | inl p ↦ none i k (let order = leb-false failing.equation other.equation gt in omega (arith, less, order)) p
        | inr f ↦ let at = only i k f in omega (arith, less, at)
      ],
    )
