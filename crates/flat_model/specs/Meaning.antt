-- The value of an expression, seen from one moment.
use Rattle.std.specs.Prelude.{ℕ, ◌*◌, ◌/◌, List, map, ℤ, pos}
use Rattle.sync_values.specs.Arithmetic.{fitted}
use Rattle.sync_values.specs.declared.value.Value.TheVariants as value
use Rattle.flat_model.specs.declared.expression.Expr.{Expr}
use Rattle.flat_model.specs.declared.clock.ClockExpr.TheOpen.{Expr-F}
use Rattle.flat_model.specs.declared.clock.ClockExpr.TheFolds.{fold-Expr}
use Rattle.flat_model.specs.Operators.{Answer, Is, settled, read, chain, negated, inverted, relation, chosen}
use Rattle.flat_model.specs.Views.{Length, Views, before}
use Rattle.flat_model.specs.Functions.{called}

-- what an expression means: its answer, seen from a moment
abbrev pub Meaning : Type 0
Meaning = Views → Answer

-- the answers of several meanings
abbrev pub seen_by : Views → List Meaning → List Answer
seen_by views meanings = map (λ meaning. meaning views) meanings

-- the whole part of a length of time, k times
abbrev pub whole_of : Length → ℕ → ℤ
whole_of length k = pos (length.num * k / length.den)

-- one level of an expression whose parts have meanings; the clock of a `sample` decides nothing here
abbrev pub Level : Type 0
Level = Expr-F (Unit {0}) Meaning

abbrev pub meaning_of_level : Level → Meaning
meaning_of_level (Expr-F.Const v) views = Is v
meaning_of_level (Expr-F.Read x) views = read ((views 0).now x)
meaning_of_level (Expr-F.Chain parts ops) views = chain ops (seen_by views parts)
meaning_of_level (Expr-F.Relation rel left right) views = relation rel (left views) (right views)
meaning_of_level (Expr-F.Neg part) views = negated (part views)
meaning_of_level (Expr-F.Not part) views = inverted (part views)
meaning_of_level (Expr-F.If conditions branches other) views = chosen (seen_by views conditions) (seen_by views branches) (other views)
meaning_of_level (Expr-F.Apply function parts) views = called function (seen_by views parts)
meaning_of_level (Expr-F.Previous x) views = read ((views 0).previous x)
meaning_of_level (Expr-F.FirstTick x) views = Is (value.Bool (views 0).first)
meaning_of_level (Expr-F.IntervalTimes x k) views = settled (fitted (whole_of (views 0).interval k))
meaning_of_level (Expr-F.Hold x) views = read ((views 0).last x)
meaning_of_level (Expr-F.«Expr::Convert» conversion x) views = read ((views 0).last x)
meaning_of_level (Expr-F.Sample part clock) views = part (before views)

-- the value of an expression: the leftmost failure where it has none, and nothing where it evaluates a part without a value
unfoldable pub value_of : Expr → Meaning
value_of = fold-Expr (Unit {0}) Meaning (λ _. tt) meaning_of_level

-- the answers of several expressions
abbrev pub answers : List Expr → Views → List Answer
answers parts views = map (λ part. value_of part views) parts
