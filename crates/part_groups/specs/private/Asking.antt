-- The names that an equation asks for, as they are gathered.
use Rattle.std.specs.Prelude.{ℕ, List, [], ◌∷◌, ◌++◌, Option, Some, None, flat_map}
use Rattle.flat_model.specs.declared.clock.ClockExpr.TheOpen.{Expr-F}
use Rattle.flat_model.specs.declared.clock.ClockExpr.TheFolds.{fold-Expr}
use Rattle.flat_model.specs.declared.equation.Equation.{Equation}
use Rattle.flat_model.specs.declared.equation.Equation.TheVariants.{Valued, Clocks}
use Rattle.flat_model.specs.declared.expression.Expr.{Expr}

abbrev pub joined : List (List ℕ) → List ℕ
joined parts = flat_map (λ part. part) parts

abbrev pub names_in_level : Expr-F (Unit {0}) (List ℕ) → List ℕ
names_in_level (Expr-F.Read x) = x ∷ []
names_in_level (Expr-F.Previous x) = x ∷ []
names_in_level (Expr-F.Hold x) = x ∷ []
names_in_level (Expr-F.«Expr::Convert» conversion x) = x ∷ []
names_in_level (Expr-F.Chain parts ops) = joined parts
names_in_level (Expr-F.Apply function parts) = joined parts
names_in_level (Expr-F.Relation rel left right) = left ++ right
names_in_level (Expr-F.Neg part) = part
names_in_level (Expr-F.Not part) = part
names_in_level (Expr-F.If conditions branches other) = joined conditions ++ (joined branches ++ other)
names_in_level (Expr-F.Sample part clock) = part
names_in_level (Expr-F.Const v) = []
names_in_level (Expr-F.FirstTick x) = []
names_in_level (Expr-F.IntervalTimes x k) = []

-- the names that an expression asks for, as they stand in it
unfoldable pub names_in : Expr → List ℕ
names_in = fold-Expr (Unit {0}) (List ℕ) (λ _. tt) names_in_level

abbrev pub all_names : List Expr → List ℕ
all_names parts = flat_map names_in parts

abbrev pub names_of : Equation → List ℕ
names_of (Valued left right clause) = names_in left ++ names_in right
names_of (Clocks left right clause) = []

-- the same of an equation that may be there
abbrev pub names_at : Option Equation → List ℕ
names_at None = []
names_at (Some equation) = names_of equation
