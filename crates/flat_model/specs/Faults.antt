-- The first arithmetic fault of a run. This project's own.
use Rattle.std.specs.Prelude.{◌≡◌, ℕ, ◌<◌, ◌⊎◌, List, Some, IsSome, slice_get, Contains}
use Rattle.sync_values.specs.declared.value.Value.{Value}
use Rattle.sync_values.specs.declared.value.Fail.{Fail}
use Rattle.flat_model.specs.declared.equation.Equation.{Equation}
use Rattle.flat_model.specs.declared.expression.Expr.{Expr}
use Rattle.flat_model.specs.declared.model.FlatName.{FlatName}
use Rattle.flat_model.specs.declared.fault.FaultPlace.{FaultPlace}
use Rattle.flat_model.specs.declared.fault.FaultPlace.TheVariants as place
use Rattle.flat_model.specs.Operators.{Fails}
use Rattle.flat_model.specs.Meaning.{seen_by}
use Rattle.flat_model.specs.Assignment.{Assignment, IsOfKind}
use Rattle.flat_model.specs.Setting.{Setting, class_of_equation, site_answer, views_at}
use Rattle.flat_model.specs.Meets.{MeetsBefore}
use Rattle.flat_model.specs.Occurrences.{bare_count}
use Rattle.flat_model.specs.Uses.{Use, AreUses}
use Rattle.flat_model.specs.Given.{Row, with_row, IsGiven, CanUse, Solves}
use Rattle.flat_model.specs.Ways.{parts_beside, kind_of}

-- a site fails at m over the given values: all names that its condition reads have values, and it has none
pub record SiteFails (s : Setting) (S : Assignment) (m site : ℕ) (kind : Fail) : Type 0 where
  pub condition : Expr
  pub found : slice_get s.clocking.sites site ≡ Some condition
  pub reads : (y : ℕ) → 0 < bare_count y condition → IsSome (S y m)
  pub fails : site_answer s S site m ≡ Fails kind

-- a use's equation fails at m over the given values: it counts there, its other reads have values, and no value of its name solves it
pub record EquationFails (s : Setting) (S : Assignment) (uses : List Use) (m i : ℕ) (kind : Fail) : Type 0 where
  pub entry : Use
  pub used : Contains uses entry
  pub equation_is : entry.equation ≡ i
  pub equation : Equation
  pub name : FlatName
  pub counts : CanUse s S m entry equation name
  pub unsolved : (v : Value) → IsOfKind name.kind v → Solves s S m i equation entry.name v → ⊥
  pub kind_is : kind ≡ kind_of (seen_by (views_at s S (class_of_equation s i) m) (parts_beside entry.name equation))

-- something fails at m
abbrev pub SomethingFails : Setting → Assignment → List Use → ℕ → Type 0
SomethingFails s S uses m =
    ((site : ℕ) × (kind : Fail) × SiteFails s S m site kind) ⊎ ((i : ℕ) × (kind : Fail) × EquationFails s S uses m i kind)

-- the failing site of least number, else the first failing equation in flat order
abbrev pub IsFirstToFail : Setting → Assignment → List Use → ℕ → FaultPlace → Fail → Type 0
IsFirstToFail s S uses m (place.Site site) kind =
    SiteFails s S m site kind × ((j : ℕ) (k : Fail) → j < site → SiteFails s S m j k → ⊥)
IsFirstToFail s S uses m (place.Equation i) kind =
    EquationFails s S uses m i kind × ((j : ℕ) (k : Fail) → SiteFails s S m j k → ⊥) × ((j : ℕ) (k : Fail) → j < i → EquationFails s S uses m j k → ⊥)

-- the first fault is at moment m, over an assignment that meets the model before m
pub record IsFirstFault (s : Setting) (S : Assignment) (m : ℕ) (at : FaultPlace) (kind : Fail) : Type 0 where
  pub meets : MeetsBefore s S m
  pub uses : List Use
  pub uses_are : AreUses s uses
  pub row : Row
  pub given : IsGiven s S uses m row
  pub first : IsFirstToFail s (with_row S m row) uses m at kind
  pub none_before : (k : ℕ) (earlier : Row) → k < m → IsGiven s S uses k earlier → SomethingFails s (with_row S k earlier) uses k → ⊥
