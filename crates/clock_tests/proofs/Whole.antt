-- Names, equations and clauses that fit together make a raw model.
use Rattle.std.proofs.Common.{◌≡◌, true, List, length, All}
use Rattle.flat_model.specs.declared.model.FlatName.{FlatName}
use Rattle.flat_model.specs.declared.raw.RawEq.{RawEq}
use Rattle.flat_model.specs.declared.raw.RawExpr.{RawExpr}
use Rattle.flat_model.specs.Models.{AreNames}
use Rattle.flat_model.specs.RawModels.{HasConstants, constants_fit, IsRawModel}
use Rattle.clock_tests.specs.Raws.{AreWhole}

pub is_raw : (names : List FlatName) (equations : List RawEq) (clauses : List RawExpr) → AreNames names → AreWhole equations (length clauses) → All HasConstants equations
    → All (λ clause. constants_fit clause ≡ true) clauses → IsRawModel (record { names = names; equations = equations; clauses = clauses })
is_raw names equations clauses are whole fit clocks_fit =
    record { names = are; few = whole.few; below = whole.below; used = whole.used; constants = fit; clause_constants = clocks_fit }
