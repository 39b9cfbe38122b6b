-- An equation is solvable for a name where it has a spine, and the name stands nowhere else.
use Rattle.std.proofs.Common.{inl, inr, ℕ, Bool, true, false, arith}
use Rattle.flat_model.specs.declared.equation.Equation.{Equation}
use Rattle.flat_model.specs.declared.equation.Equation.TheVariants.{Valued, Clocks}
use Rattle.flat_model.specs.Uses.{IsSolvableFor}
use Rattle.eq_orient.proofs.OneAnswer.{stands_bare}
use Rattle.eq_orient.specs.Spine.{IsSpineOf, Lags}

-- solvable: with a spine, and nothing of the name under `hold` or a conversion
pub solvable_by : (x : ℕ) (equation : Equation) (side : Bool) → IsSpineOf x equation side → (Lags x equation → ⊥) → IsSolvableFor x equation
solvable_by x (Valued left right clause) true spine free =
    (let none = λ (some : Lags x (Valued left right clause)). free some in omega (arith, spine.0, none), inl spine.1)
solvable_by x (Valued left right clause) false spine free =
    (let none = λ (some : Lags x (Valued left right clause)). free some in omega (arith, spine.0, none), inr spine.1)
solvable_by x (Clocks left right clause) side spine free = spine

pub not_lagging : (x : ℕ) (equation : Equation) → IsSolvableFor x equation → Lags x equation → ⊥
not_lagging x (Valued left right clause) solvable some = elim solvable.1 [
  | inl l ↦ let bare = stands_bare x left l in omega (arith, bare, solvable.0, some)
  | inr r ↦ let bare = stands_bare x right r in omega (arith, bare, solvable.0, some)
]
not_lagging x (Clocks left right clause) solvable some = some

pub spine_by : (x : ℕ) (equation : Equation) → IsSolvableFor x equation → (side : Bool) × IsSpineOf x equation side
spine_by x (Valued left right clause) solvable = elim solvable.1 [
  | inl l ↦ let bare = stands_bare x left l in (true, (omega (arith, bare, solvable.0), l))
  | inr r ↦ let bare = stands_bare x right r in (false, (omega (arith, bare, solvable.0), r))
]
spine_by x (Clocks left right clause) solvable = absurd solvable
