-- Which condition fails first over the values of a moment. This project's own.
use Rattle.std.specs.Prelude.{◌≡◌, ℕ, ◌<◌, List, Option, Some, None, IsSome, slice_get}
use Rattle.sync_values.specs.declared.value.Value.{Value}
use Rattle.sync_values.specs.declared.value.Fail.{Fail}
use Rattle.flat_model.specs.declared.expression.Expr.{Expr}
use Rattle.flat_model.specs.Values.{value_in, views_of}
use Rattle.flat_model.specs.Meaning.{value_of}
use Rattle.flat_model.specs.Occurrences.{bare_count}
use Rattle.flat_model.specs.Operators.{Fails}
use Rattle.site_risings.specs.declared.answers.SiteFailing.{SiteFailing}

-- a condition fails over the values of a moment: all names that it reads have values, and it gives none
pub record FailsOver (now : List (Option Value)) (condition : Expr) (kind : Fail) : Type 0 where
  pub reads : (y : ℕ) → 0 < bare_count y condition → IsSome (value_in now y)
  pub fails : value_of condition (views_of now) ≡ Fails kind

-- how it fails, where it does
abbrev pub IsFailingOver : List (Option Value) → Expr → Option Fail → Type 0
IsFailingOver now condition None = (kind : Fail) → FailsOver now condition kind → ⊥
IsFailingOver now condition (Some kind) = FailsOver now condition kind

-- the condition of a site fails
abbrev pub SiteFailsOver : List (Option Value) → List Expr → ℕ → Fail → Type 0
SiteFailsOver now sites site kind = (condition : Expr) × (slice_get sites site ≡ Some condition) × FailsOver now condition kind

-- the site of least number that fails is told, or none fails
abbrev pub TellsFirst : List (Option Value) → List Expr → Option SiteFailing → Type 0
TellsFirst now sites None = (site : ℕ) (kind : Fail) → SiteFailsOver now sites site kind → ⊥
TellsFirst now sites (Some failing) = SiteFailsOver now sites failing.site failing.kind × ((site : ℕ) (kind : Fail) → site < failing.site → SiteFailsOver now sites site kind → ⊥)
