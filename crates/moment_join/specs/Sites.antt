-- The conditions of sites at a moment, over the values that no clock decides of. This project's own.
use Rattle.std.specs.Prelude.{◌≡◌, ◌⊎◌, ℕ, ◌<◌, Bool, true, List, Option, Some, slice_get}
use Rattle.sync_values.specs.declared.value.Fail.{Fail}
use Rattle.flat_model.specs.declared.expression.Expr.{Expr}
use Rattle.flat_model.specs.Assignment.{Assignment}
use Rattle.flat_model.specs.Given.{Row, with_row}
use Rattle.flat_model.specs.Occurrences.{bare_count}
use Rattle.flat_model.specs.Setting.{Setting, site_answer}
use Rattle.flat_model.specs.Tables.{IsInput}
use Rattle.flat_model.specs.Faults.{SiteFails}
use Rattle.flat_model.specs.Uses.{Use}
use Rattle.moment_theory.specs.Free.{IsReachedBy}

-- what the conditions of sites read, these uses reach, or it is an input
abbrev pub ReachSites : Setting → List Use → Type 0
ReachSites s pure = (site y : ℕ) (condition : Expr) → slice_get s.clocking.sites site ≡ Some condition → 0 < bare_count y condition → IsReachedBy y pure ⊎ IsInput s.model.names y

-- each site answers over the one row as over the other, and fails alike
pub record AnswerAlike (s : Setting) (S : Assignment) (m : ℕ) (base last : Row) : Type 0 where
  pub answers : (site : ℕ) → site_answer s (with_row S m base) site m ≡ site_answer s (with_row S m last) site m
  pub fails : (site : ℕ) (kind : Fail) → SiteFails s (with_row S m base) m site kind → SiteFails s (with_row S m last) m site kind
  pub back : (site : ℕ) (kind : Fail) → SiteFails s (with_row S m last) m site kind → SiteFails s (with_row S m base) m site kind
