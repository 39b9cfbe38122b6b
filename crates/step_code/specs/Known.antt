-- When an expression has code: it has a type, and all that it reads has cells.
use Rattle.std.specs.Prelude.{◌≡◌, ℕ, Bool, true, ◌&&◌, List, Some}
use Rattle.std.specs.List.{list_all}
use Rattle.std.specs.Option.{is_some}
use Rattle.flat_model.specs.declared.model.NameKind.TheVariants as kind
use Rattle.flat_model.specs.declared.expression.Expr.{Expr}
use Rattle.flat_model.specs.declared.clock.ClockExpr.TheOpen.{Expr-F}
use Rattle.flat_model.specs.declared.clock.ClockExpr.TheFolds.{fold-Expr}
use Rattle.flat_model.specs.Typing.{Types}
use Rattle.step_code.specs.Code.{Cells, cells_before}

-- whether what is read has cells, by the cells
abbrev pub Covering : Type 0
Covering = Cells → Bool

abbrev pub all_covered : Cells → List Covering → Bool
all_covered at parts = list_all (λ part. part at) parts

-- one level of an expression whose parts are told
abbrev pub covered_level : Expr-F (Unit {0}) Covering → Covering
covered_level (Expr-F.Const v) at = is_some ((at 0).const v)
covered_level (Expr-F.Read x) at = is_some ((at 0).now x)
covered_level (Expr-F.Chain parts ops) at = all_covered at parts
covered_level (Expr-F.Relation rel left right) at = left at && right at
covered_level (Expr-F.Neg part) at = part at
covered_level (Expr-F.Not part) at = part at
covered_level (Expr-F.If conditions branches other) at = all_covered at conditions && (all_covered at branches && other at)
covered_level (Expr-F.Apply function parts) at = all_covered at parts
covered_level (Expr-F.Previous x) at = is_some ((at 0).previous x)
covered_level (Expr-F.FirstTick x) at = is_some (at 0).first
covered_level (Expr-F.IntervalTimes x k) at = is_some ((at 0).interval k)
covered_level (Expr-F.Hold x) at = is_some ((at 0).last x)
covered_level (Expr-F.«Expr::Convert» conversion x) at = is_some ((at 0).last x)
covered_level (Expr-F.Sample part clock) at = part (cells_before at)

unfoldable pub covering_of : Expr → Covering
covering_of = fold-Expr (Unit {0}) Covering (λ _. tt) covered_level

-- all that an expression reads has cells, its constants included
abbrev pub has_cells : Cells → Expr → Bool
has_cells at e = covering_of e at

-- the Boolean names are marked as truth values
abbrev pub AreMarked : Types → Cells → Type 0
AreMarked types at = (k x : ℕ) → types x ≡ Some kind.Boolean → (at k).truth x ≡ true
