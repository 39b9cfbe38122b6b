-- What may stand in the argument of `sample`.
use Rattle.std.specs.Prelude.{Bool, true, false, ◌&&◌, List}
use Rattle.std.specs.List.{list_all}
use Rattle.flat_model.specs.declared.expression.Expr.{Expr}
use Rattle.flat_model.specs.declared.clock.ClockExpr.TheOpen.{Expr-F}
use Rattle.flat_model.specs.declared.clock.ClockExpr.TheFolds.{fold-Expr}
use Rattle.flat_model.specs.declared.evaluate.Vantage.{Vantage}
use Rattle.flat_model.specs.declared.evaluate.Vantage.TheVariants.{Now, Left}

-- whether a part may stand at each vantage
abbrev pub Standing : Type 0
Standing = Vantage → Bool

abbrev pub all_stand : Vantage → List Standing → Bool
all_stand vantage parts = list_all (λ part. part vantage) parts

-- what asks for a tick or samples itself stands outside the arguments of `sample` alone
abbrev pub outside_samples : Standing
outside_samples Now = true
outside_samples Left = false

-- whether one level may stand where its parts do
abbrev pub standing_of_level : Expr-F (Unit {0}) Standing → Standing
standing_of_level (Expr-F.Const v) vantage = true
standing_of_level (Expr-F.Read x) vantage = true
standing_of_level (Expr-F.Chain parts ops) vantage = all_stand vantage parts
standing_of_level (Expr-F.Relation rel left right) vantage = left vantage && right vantage
standing_of_level (Expr-F.Neg part) vantage = part vantage
standing_of_level (Expr-F.Not part) vantage = part vantage
standing_of_level (Expr-F.If conditions branches other) vantage = all_stand vantage conditions && all_stand vantage branches && other vantage
standing_of_level (Expr-F.Apply function parts) vantage = all_stand vantage parts
standing_of_level (Expr-F.Previous x) vantage = outside_samples vantage
standing_of_level (Expr-F.FirstTick x) vantage = outside_samples vantage
standing_of_level (Expr-F.IntervalTimes x k) vantage = outside_samples vantage
standing_of_level (Expr-F.Hold x) vantage = true
standing_of_level (Expr-F.«Expr::Convert» conversion x) vantage = outside_samples vantage
standing_of_level (Expr-F.Sample part clock) vantage = outside_samples vantage && part Left

-- whether an expression may stand in an equation (Now) or in the argument of `sample` (Left)
unfoldable pub may_stand : Expr → Standing
may_stand = fold-Expr (Unit {0}) Standing (λ _. tt) standing_of_level

-- nothing that asks for a tick or samples itself stands in an argument of `sample`
abbrev pub samples_are_plain : Expr → Bool
samples_are_plain e = may_stand e Now

-- whether several expressions may stand there
abbrev pub all_may_stand : Vantage → List Expr → Bool
all_may_stand vantage parts = list_all (λ part. may_stand part vantage) parts

-- the same of several expressions of an equation
abbrev pub all_samples_are_plain : List Expr → Bool
all_samples_are_plain parts = all_may_stand Now parts
