-- The units of uses and of names, as they are found.
use Rattle.std.specs.Prelude.{◌≡◌, ℕ, ◌<◌, List, length, Option, Some, slice_get}
use Rattle.eq_order.specs.declared.uses.Use as answered
use Rattle.flat_model.specs.Setting.{flattened}
use Rattle.moment_order.specs.declared.stage.Stage.{Stage}
use Rattle.part_groups.specs.Units.{unit_of, unit_count}

-- each use has its unit
pub record AreUnits (count : ℕ) (stages : List Stage) (of_use : List (Option ℕ)) (total : ℕ) : Type 0 where
  pub each : (i : ℕ) → flattened (slice_get of_use i) ≡ unit_of count stages i
  pub total_is : total ≡ unit_count count stages

-- use i, of a unit, reaches the name
pub record Owns (order : List answered.Use) (units : List (Option ℕ)) (i x a : ℕ) : Type 0 where
  pub entry : answered.Use
  pub found : slice_get order i ≡ Some entry
  pub name : entry.name ≡ x
  pub unit : flattened (slice_get units i) ≡ Some a

-- by the first uses each name has a unit that reaches it, the last one
pub record AreOwners (names : ℕ) (order : List answered.Use) (units : List (Option ℕ)) (bound : ℕ) (owners : List (Option ℕ)) : Type 0 where
  pub size : length owners ≡ names
  pub own : (x a : ℕ) → flattened (slice_get owners x) ≡ Some a → (i : ℕ) × (i < bound) × Owns order units i x a
  pub last : (i x a : ℕ) → i < bound → x < names → Owns order units i x a → ((j b : ℕ) → i < j → j < bound → Owns order units j x b → ⊥) → flattened (slice_get owners x) ≡ Some a
