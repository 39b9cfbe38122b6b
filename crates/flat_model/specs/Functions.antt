-- The functions that an expression may call.
use Rattle.std.specs.Prelude.{List, [], ◌∷◌, ℤ}
use Rattle.sync_values.specs.Arithmetic.{fitted, over, magnitude, exact_div, exact_rem, exact_modulo, lesser, greater}
use Rattle.sync_values.specs.declared.value.Value.TheVariants as value
use Rattle.flat_model.specs.declared.expression.Fun.{Fun}
use Rattle.flat_model.specs.declared.expression.Fun.TheVariants.{Div, Mod, Rem, Abs, Min, Max}
use Rattle.flat_model.specs.Operators.{Answer, Is, Absent, settled}

-- a function of one whole number
abbrev pub called_with_one : Fun → ℤ → Answer
called_with_one Abs a = settled (fitted (magnitude a))
called_with_one _ a = Absent

-- a function of two whole numbers
abbrev pub called_with_two : Fun → ℤ → ℤ → Answer
called_with_two Div a b = settled (over b (exact_div a b))
called_with_two Mod a b = settled (over b (exact_modulo a b))
called_with_two Rem a b = settled (over b (exact_rem a b))
called_with_two Min a b = Is (value.Int (lesser a b))
called_with_two Max a b = Is (value.Int (greater a b))
called_with_two Abs a b = Absent

-- a call with the answers of its arguments, of which the leftmost that has no value decides
abbrev pub called : Fun → List Answer → Answer
called function (Is (value.Int a) ∷ []) = called_with_one function a
called function (Is (value.Int a) ∷ (Is (value.Int b) ∷ [])) = called_with_two function a b
called function (Is a ∷ (Is b ∷ rest)) = Absent
called function (Is a ∷ (other ∷ rest)) = other
called function (Is a ∷ []) = Absent
called function (other ∷ rest) = other
called function [] = Absent
