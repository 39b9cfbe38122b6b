-- Expressions whose parts all have answers, where names and what they were before are whole numbers.
use Rattle.std.specs.Prelude.{◌≡◌, ℕ, ℤ, true, false, Option, Some}
use Rattle.sync_values.specs.declared.value.Value.{Value}
use Rattle.sync_values.specs.declared.value.Value.TheVariants as value
use Rattle.flat_model.specs.declared.expression.Expr.{Expr}
use Rattle.flat_model.specs.Operators.{Answer, Is, Fails}
use Rattle.flat_model.specs.Views.{Views}
use Rattle.flat_model.specs.Meaning.{seen_by, value_of}
use Rattle.flat_model.specs.Ways.{beside_of, way_to}
use Rattle.flat_model.specs.Samples.{samples_are_plain}
use Rattle.eq_orient.specs.Solving.{is_formed, ArePresent}

abbrev pub IsNumber : Option Value → Type 0
IsNumber o = (z : ℤ) × (o ≡ Some (value.Int z))

-- each name is a whole number, now and before
pub record AreWhole (views : Views) : Type 0 where
  pub now : (x : ℕ) → IsNumber ((views 0).now x)
  pub previous : (x : ℕ) → IsNumber ((views 0).previous x)

-- a whole number, or a failure
abbrev pub IsWhole : Answer → Type 0
IsWhole (Is (value.Int z)) = Unit {0}
IsWhole (Fails kind) = Unit {0}
IsWhole _ = ⊥

-- what `solve_value` asks of a side that is solved for name 0
pub record IsReady (e : Expr) : Type 0 where
  pub formed : is_formed e ≡ true
  pub plain : samples_are_plain e ≡ true
  pub present : (views : Views) → AreWhole views → ArePresent (seen_by views (beside_of (way_to 0 e)))

-- such a side, which is a whole number where name 0 is not in it
pub record IsTame (e : Expr) : Type 0 where
  pub ready : IsReady e
  pub typed : (way_to 0 e).reaches ≡ false → (views : Views) → AreWhole views → IsWhole (value_of e views)
