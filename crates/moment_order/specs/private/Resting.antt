-- Which uses rest on a clock, found one after the other.
use Rattle.std.specs.Prelude.{ℕ, Bool, true, false, not, ◌||◌, ◌&&◌, List, [], ◌∷◌, Option, Some, None, is_none, slice_get, slice_index_or, slice_set, if◌then◌else◌}
use Rattle.std.specs.List.{list_any}
use Rattle.flat_model.specs.declared.clock.Clocking.{Clocking}
use Rattle.flat_model.specs.declared.clock.ClockExpr.TheOpen.{Expr-F}
use Rattle.flat_model.specs.declared.clock.ClockExpr.TheFolds.{fold-Expr}
use Rattle.flat_model.specs.declared.equation.Equation.{Equation}
use Rattle.flat_model.specs.declared.equation.Equation.TheVariants.{Valued, Clocks}
use Rattle.flat_model.specs.declared.expression.Expr.{Expr}
use Rattle.flat_model.specs.Setting.{flattened}
use Rattle.flat_model.specs.Uses.{Use}
use Rattle.moment_order.specs.declared.stage.Stage.{Stage}
use Rattle.moment_order.specs.Stages.{stage_in}

-- by these flags a name rests on a clock
abbrev pub is_late : List Bool → ℕ → Bool
is_late late y = slice_index_or late y false

abbrev pub rests_in_level : List Bool → Expr-F (Unit {0}) Bool → Bool
rests_in_level late (Expr-F.Read y) = is_late late y
rests_in_level late (Expr-F.Chain parts ops) = list_any (λ part. part) parts
rests_in_level late (Expr-F.Relation rel left right) = left || right
rests_in_level late (Expr-F.Neg part) = part
rests_in_level late (Expr-F.Not part) = part
rests_in_level late (Expr-F.If conditions branches other) = list_any (λ part. part) conditions || list_any (λ part. part) branches || other
rests_in_level late (Expr-F.Apply function parts) = list_any (λ part. part) parts
rests_in_level late (Expr-F.Hold y) = true
rests_in_level late (Expr-F.«Expr::Convert» conversion y) = true
rests_in_level late _ = false

-- an expression asks for a last value, or reads a name that rests on a clock
unfoldable pub rests : List Bool → Expr → Bool
rests late = fold-Expr (Unit {0}) Bool (λ _. tt) (rests_in_level late)

abbrev pub equation_rests : List Bool → Equation → Bool
equation_rests late (Valued left right clause) = rests late left || rests late right
equation_rests late (Clocks left right clause) = false

-- the same of an equation that may be there
abbrev pub rests_at : List Bool → Option Equation → Bool
rests_at late None = false
rests_at late (Some equation) = equation_rests late equation

-- a use rests on no clock
abbrev pub is_pure_at : List Equation → Option ℕ → List Bool → ℕ → Bool
is_pure_at equations class late i = is_none class && not (rests_at late (slice_get equations i))

-- the base partition of a class
abbrev pub place_in : List ℕ → Option ℕ → Option ℕ
place_in partitions None = None
place_in partitions (Some class) = slice_get partitions class

module _ (equations : List Equation) (clocking : Clocking) where
  abbrev pub class_in : Use → Option ℕ
  class_in entry = flattened (slice_get clocking.of_equation entry.equation)

  abbrev pub is_pure_in : List Bool → Use → Bool
  is_pure_in late entry = is_pure_at equations (class_in entry) late entry.equation

  -- the flags once a use is taken
  abbrev pub late_after : List Bool → Use → List Bool
  late_after late entry = if is_pure_in late entry then late else slice_set late entry.name true

  abbrev pub stage_at : List Bool → Use → Stage
  stage_at late entry = stage_in (is_pure_in late entry) (place_in clocking.partitions (class_in entry))

  -- the stages of uses from these flags on
  abbrev pub stages_from : List Bool → List Use → List Stage
  stages_from late [] = []
  stages_from late (entry ∷ uses) = stage_at late entry ∷ stages_from (late_after late entry) uses
