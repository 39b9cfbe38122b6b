-- The least of what is told.
use Rattle.std.proofs.Common.{◌≡◌, ℕ, ◌<◌, ◌≤◌, nat_le, true, false, if◌then◌else◌, List, Option, Some, None, ◌⊎◌, inl, inr, arith}
use Rattle.std.proofs.lemmas.Bool.Decides.{leb_tells}
use Rattle.sync_values.specs.declared.value.Fail.{Fail}
use Rattle.first_failure.specs.declared.least.EquationFailing.{EquationFailing}
use Rattle.first_failure.specs.Turns.{IsLeast}
use Rattle.moment_join.specs.Told.{earlier}

pub same_least : (F G : ℕ → Fail → Type 0) (told : Option EquationFailing) → ((i : ℕ) (k : Fail) → F i k → G i k) → ((i : ℕ) (k : Fail) → G i k → F i k) → IsLeast F told → IsLeast G told
same_least F G None forth back none = λ i k g. none i k (back i k g)
same_least F G (Some f) forth back (own, none) = (forth f.equation f.kind own, λ i k less g. none i k less (back i k g))

pub earlier_least : (F G : ℕ → Fail → Type 0) (a b : Option EquationFailing) → IsLeast F a → IsLeast G b → IsLeast (λ i k. F i k ⊎ G i k) (earlier a b)
earlier_least F G None None one two = λ i k h. elim h [
  | inl f ↦ one i k f
  | inr g ↦ two i k g
]
earlier_least F G None (Some g) one two = (
  inr two.0,
  λ i k less h. elim h [
    | inl f ↦ one i k f
    | inr x ↦ two.1 i k less x
  ],
)
earlier_least F G (Some f) None one two = (
  inl one.0,
  λ i k less h. elim h [
    | inl x ↦ one.1 i k less x
    | inr g ↦ two i k g
  ],
)
earlier_least F G (Some f) (Some g) one two = by_order (leb_tells f.equation g.equation)
  where
    by_order : ((nat_le f.equation g.equation ≡ true) × (f.equation ≤ g.equation)) ⊎ ((nat_le f.equation g.equation ≡ false) × (g.equation < f.equation))
        → IsLeast (λ i k. F i k ⊎ G i k) (if nat_le f.equation g.equation then Some f else Some g)
    by_order (inl (e, le)) = rw e (
      inl one.0,
      λ i k less h. elim h [
        | inl x ↦ one.1 i k less x
        | inr x ↦ two.1 i k (omega (arith, less, le)) x
      ],
    )
    by_order (inr (e, lt)) = rw e (
      inr two.0,
      λ i k less h. elim h [
        | inl x ↦ one.1 i k (omega (arith, less, lt)) x
        | inr x ↦ two.1 i k less x
      ],
    )
