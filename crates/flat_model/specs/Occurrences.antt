-- Where names stand in an expression, outside the arguments of `sample`: bare, held, converted, or uncut.
use Rattle.std.specs.Prelude.{ℕ, ◌+◌, ◌==◌, Bool, true, false, ◌&&◌, Option, Some, None, sum}
use Rattle.std.specs.List.{list_any, list_all}
use Rattle.sync_values.specs.declared.value.ChainOp.{ChainOp}
use Rattle.sync_values.specs.declared.value.ChainOp.TheVariants.{Plus, Minus}
use Rattle.flat_model.specs.declared.expression.Expr.{Expr}
use Rattle.flat_model.specs.declared.clock.ClockExpr.TheOpen.{Expr-F}
use Rattle.flat_model.specs.declared.clock.ClockExpr.TheFolds.{fold-Expr}

-- 1 where a name is the one that is asked for
abbrev pub one_if : Bool → ℕ
one_if true = 1
one_if false = 0

-- the sum over the parts of a level that are evaluated at the moment itself
abbrev pub sum_of_parts : Expr-F (Unit {0}) ℕ → ℕ
sum_of_parts (Expr-F.Chain parts ops) = sum parts
sum_of_parts (Expr-F.Relation rel left right) = left + right
sum_of_parts (Expr-F.Neg part) = part
sum_of_parts (Expr-F.Not part) = part
sum_of_parts (Expr-F.If conditions branches other) = sum conditions + sum branches + other
sum_of_parts (Expr-F.Apply function parts) = sum parts
sum_of_parts _ = 0

abbrev pub bare_in_level : ℕ → Expr-F (Unit {0}) ℕ → ℕ
bare_in_level x (Expr-F.Read y) = one_if (y == x)
bare_in_level x level = sum_of_parts level

abbrev pub held_in_level : ℕ → Expr-F (Unit {0}) ℕ → ℕ
held_in_level x (Expr-F.Hold y) = one_if (y == x)
held_in_level x level = sum_of_parts level

abbrev pub converted_in_level : ℕ → Expr-F (Unit {0}) ℕ → ℕ
converted_in_level x (Expr-F.«Expr::Convert» conversion y) = one_if (y == x)
converted_in_level x level = sum_of_parts level

-- how often a name stands bare
unfoldable pub bare_count : ℕ → Expr → ℕ
bare_count x = fold-Expr (Unit {0}) ℕ (λ _. tt) (bare_in_level x)

-- how often it is the argument of `hold`
unfoldable pub held_count : ℕ → Expr → ℕ
held_count x = fold-Expr (Unit {0}) ℕ (λ _. tt) (held_in_level x)

-- how often it is the argument of a conversion
unfoldable pub converted_count : ℕ → Expr → ℕ
converted_count x = fold-Expr (Unit {0}) ℕ (λ _. tt) (converted_in_level x)

-- 1 where a name is given and is the one that is asked for
abbrev pub one_if_given : ℕ → Option ℕ → ℕ
one_if_given x None = 0
one_if_given x (Some y) = one_if (y == x)

abbrev pub uncut_in_level : ℕ → Expr-F (Unit {0}) ℕ → ℕ
uncut_in_level x (Expr-F.Read y) = one_if (y == x)
uncut_in_level x (Expr-F.Previous y) = one_if (y == x)
uncut_in_level x (Expr-F.FirstTick y) = one_if_given x y
uncut_in_level x (Expr-F.IntervalTimes y k) = one_if_given x y
uncut_in_level x level = sum_of_parts level

-- how often it stands bare or as the argument of `previous`, `firstTick` or `interval`
unfoldable pub uncut_count : ℕ → Expr → ℕ
uncut_count x = fold-Expr (Unit {0}) ℕ (λ _. tt) (uncut_in_level x)

abbrev pub samples_in_level : Expr-F (Unit {0}) ℕ → ℕ
samples_in_level (Expr-F.Sample part clock) = 1
samples_in_level level = sum_of_parts level

-- how often a `sample` stands in an expression, not counting those inside another
unfoldable pub sample_count : Expr → ℕ
sample_count = fold-Expr (Unit {0}) ℕ (λ _. tt) samples_in_level

abbrev pub direct_level : Expr-F (Unit {0}) Bool → Bool
direct_level (Expr-F.Const v) = true
direct_level (Expr-F.Read x) = true
direct_level (Expr-F.Chain parts ops) = list_all (λ part. part) parts
direct_level (Expr-F.Relation rel left right) = left && right
direct_level (Expr-F.Neg part) = part
direct_level (Expr-F.Not part) = part
direct_level (Expr-F.If conditions branches other) = list_all (λ part. part) conditions && list_all (λ part. part) branches && other
direct_level (Expr-F.Apply function parts) = list_all (λ part. part) parts
direct_level _ = false

-- of constants, names, operators and functions alone
unfoldable pub is_direct : Expr → Bool
is_direct = fold-Expr (Unit {0}) Bool (λ _. tt) direct_level

abbrev pub is_sum : ChainOp → Bool
is_sum Plus = true
is_sum Minus = true
is_sum _ = false

-- a name is reached from the root through sums, differences, unary minus and `not` only
abbrev pub reached_in_level : ℕ → Expr-F (Unit {0}) Bool → Bool
reached_in_level x (Expr-F.Read y) = y == x
reached_in_level x (Expr-F.Chain parts ops) = list_all is_sum ops && list_any (λ part. part) parts
reached_in_level x (Expr-F.Neg part) = part
reached_in_level x (Expr-F.Not part) = part
reached_in_level x _ = false

unfoldable pub is_reached : ℕ → Expr → Bool
is_reached x = fold-Expr (Unit {0}) Bool (λ _. tt) (reached_in_level x)
