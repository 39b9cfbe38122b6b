-- Which expressions read a name that has no value, found part by part.
use Rattle.std.specs.Prelude.{ℕ, Bool, false, ◌||◌, List, Option, is_none}
use Rattle.std.specs.List.{list_any}
use Rattle.sync_values.specs.declared.value.Value.{Value}
use Rattle.flat_model.specs.declared.clock.ClockExpr.TheOpen.{Expr-F}
use Rattle.flat_model.specs.declared.clock.ClockExpr.TheFolds.{fold-Expr}
use Rattle.flat_model.specs.declared.expression.Expr.{Expr}
use Rattle.flat_model.specs.Values.{value_in}

abbrev pub is_missing : List (Option Value) → ℕ → Bool
is_missing now y = is_none (value_in now y)

abbrev pub lacks_in_level : List (Option Value) → Expr-F (Unit {0}) Bool → Bool
lacks_in_level now (Expr-F.Read y) = is_missing now y
lacks_in_level now (Expr-F.Chain parts ops) = list_any (λ part. part) parts
lacks_in_level now (Expr-F.Relation rel left right) = left || right
lacks_in_level now (Expr-F.Neg part) = part
lacks_in_level now (Expr-F.Not part) = part
lacks_in_level now (Expr-F.If conditions branches other) = list_any (λ part. part) conditions || list_any (λ part. part) branches || other
lacks_in_level now (Expr-F.Apply function parts) = list_any (λ part. part) parts
lacks_in_level now _ = false

-- a name that stands bare in an expression has no value
unfoldable pub lacks : List (Option Value) → Expr → Bool
lacks now = fold-Expr (Unit {0}) Bool (λ _. tt) (lacks_in_level now)
