-- Relations between two values of one kind.
use Rattle.std.specs.Prelude.{ℤ, pos, int_lt, int_le, not, Bool, true, false, ⊤}
use Rattle.std.specs.Ordering.{int_eq}
use Rattle.sync_values.specs.declared.value.Value.{Value}
use Rattle.sync_values.specs.declared.value.Value.TheVariants as value
use Rattle.sync_values.specs.declared.value.Rel.{Rel}
use Rattle.sync_values.specs.declared.value.Rel.TheVariants as rel

-- both are Integers, or both are Booleans
abbrev pub AreAlike : Value → Value → Type 0
AreAlike (value.Int a) (value.Int b) = ⊤
AreAlike (value.Int a) (value.Bool b) = ⊥
AreAlike (value.Bool a) (value.Int b) = ⊥
AreAlike (value.Bool a) (value.Bool b) = ⊤

-- the place of a value among those of its kind: false is below true
abbrev pub rank : Value → ℤ
rank (value.Int a) = a
rank (value.Bool false) = pos 0
rank (value.Bool true) = pos 1

-- whether the relation holds between two whole numbers
abbrev pub holds : Rel → ℤ → ℤ → Bool
holds rel.Less a b = int_lt a b
holds rel.LessEq a b = int_le a b
holds rel.Greater a b = int_lt b a
holds rel.GreaterEq a b = int_le b a
holds rel.Equal a b = int_eq a b
holds rel.Unequal a b = not (int_eq a b)

-- whether the relation holds between two values of one kind
abbrev pub related : Rel → Value → Value → Bool
related rel a b = holds rel (rank a) (rank b)
