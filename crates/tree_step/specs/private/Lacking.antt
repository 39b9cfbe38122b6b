-- Whether an expression reads something now that has no value.
use Rattle.std.specs.Prelude.{ℕ, Bool, true, false, not, ◌||◌, ◌&&◌, ◌==◌, List, Option, Some, None, is_none}
use Rattle.std.specs.List.{list_any}
use Rattle.flat_model.specs.declared.clock.ClockExpr.TheOpen.{Expr-F}
use Rattle.flat_model.specs.declared.clock.ClockExpr.TheFolds.{fold-Expr}
use Rattle.flat_model.specs.declared.equation.Equation.{Equation}
use Rattle.flat_model.specs.declared.equation.Equation.TheVariants.{Valued, Clocks}
use Rattle.flat_model.specs.declared.expression.Expr.{Expr}
use Rattle.tree_step.specs.declared.cell.Cell.{Cell}
use Rattle.tree_step.specs.declared.cell.Standing.{Standing}
use Rattle.tree_step.specs.declared.cell.Standing.TheVariants.{Ticks, Rests, Unknown}
use Rattle.tree_step.specs.Cells.{cell_in}
use Rattle.tree_step.specs.Frames.{now_in}

-- a name is missing that is read bare: it is another than the equation's own, and has no value
unfoldable pub is_missing : List ℕ → List Cell → ℕ → ℕ → Bool
is_missing places cells own y = not (y == own) && is_none (now_in (cell_in places cells y))

abbrev pub may_tick : Standing → Bool
may_tick Ticks = true
may_tick Rests = false
may_tick Unknown = true

-- a name is open whose last value is read: it has no value, and is not known to rest
abbrev pub is_open_in : Option Cell → Bool
is_open_in None = true
is_open_in (Some cell) = is_none cell.now && may_tick cell.standing

unfoldable pub is_unsettled : List ℕ → List Cell → ℕ → Bool
is_unsettled places cells z = is_open_in (cell_in places cells z)

abbrev pub lacks_in_level : (ℕ → Bool) → (ℕ → Bool) → Expr-F (Unit {0}) Bool → Bool
lacks_in_level bare last (Expr-F.Read y) = bare y
lacks_in_level bare last (Expr-F.Chain parts ops) = list_any (λ part. part) parts
lacks_in_level bare last (Expr-F.Relation rel left right) = left || right
lacks_in_level bare last (Expr-F.Neg part) = part
lacks_in_level bare last (Expr-F.Not part) = part
lacks_in_level bare last (Expr-F.If conditions branches other) = list_any (λ part. part) conditions || list_any (λ part. part) branches || other
lacks_in_level bare last (Expr-F.Apply function parts) = list_any (λ part. part) parts
lacks_in_level bare last (Expr-F.Hold y) = last y
lacks_in_level bare last (Expr-F.«Expr::Convert» conversion y) = last y
lacks_in_level bare last _ = false

-- some name that an expression reads now is missing: bare by the one test, under `hold` or a conversion by the other
unfoldable pub lacks : (ℕ → Bool) → (ℕ → Bool) → Expr → Bool
lacks bare last = fold-Expr (Unit {0}) Bool (λ _. tt) (lacks_in_level bare last)

-- the same of an equation for a name
abbrev pub expr_lacks : List ℕ → List Cell → ℕ → Expr → Bool
expr_lacks places cells own e = lacks (is_missing places cells own) (is_unsettled places cells) e

abbrev pub equation_lacks : List ℕ → List Cell → ℕ → Equation → Bool
equation_lacks places cells own (Valued left right clause) = expr_lacks places cells own left || expr_lacks places cells own right
equation_lacks places cells own (Clocks left right clause) = true
