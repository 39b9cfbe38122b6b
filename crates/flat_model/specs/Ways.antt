-- The parts of an equation that are evaluated on the way to a name. This project's own, for the kind of a fault alone.
use Rattle.std.specs.Prelude.{ℕ, ◌==◌, Bool, false, List, [], ◌∷◌, ◌++◌, map, flat_map, if◌then◌else◌}
use Rattle.std.specs.List.{list_any}
use Rattle.sync_values.specs.declared.value.ChainOp.{ChainOp}
use Rattle.sync_values.specs.declared.value.Fail.{Fail}
use Rattle.sync_values.specs.declared.value.Fail.TheVariants.{TooLarge}
use Rattle.flat_model.specs.declared.expression.Expr.{Expr}
use Rattle.flat_model.specs.declared.equation.Equation.{Equation}
use Rattle.flat_model.specs.declared.equation.Equation.TheVariants.{Valued, Clocks}
use Rattle.flat_model.specs.declared.clock.ClockExpr.TheOpen.{Expr-F}
use Rattle.flat_model.specs.declared.clock.ClockExpr.TheFolds.{fold-Expr}
use Rattle.flat_model.specs.Operators.{Answer, Fails, chain}
use Rattle.flat_model.specs.Meaning.{Meaning, meaning_of_level, seen_by}

-- an expression on the way to a name: what it means, whether the name is reached through it, and the parts beside the way, left to right
pub record Way : Type 0 where
  pub meaning : Meaning
  pub reaches : Bool
  pub beside : List Meaning

-- the parts beside the way through an expression: itself where the name is not in it
abbrev pub beside_of : Way → List Meaning
beside_of way = if way.reaches then way.beside else (way.meaning ∷ [])

-- a chain of what stands before the way counts as one part
abbrev pub prefix_of : List ChainOp → List Meaning → List Meaning
prefix_of ops [] = []
prefix_of ops parts = (λ views. chain ops (seen_by views parts)) ∷ []

-- the parts beside the way through a chain, whose first parts are not on it
abbrev pub beside_in_chain : List ChainOp → List Meaning → List Way → List Meaning
beside_in_chain ops first [] = prefix_of ops first
beside_in_chain ops first (way ∷ ways) =
    if way.reaches then (prefix_of ops first ++ way.beside ++ flat_map beside_of ways) else beside_in_chain ops (first ++ way.meaning ∷ []) ways

abbrev pub meanings_of : List Way → List Meaning
meanings_of ways = map (λ way. way.meaning) ways

-- the same level with the meanings of its parts
abbrev pub level_of_meanings : Expr-F (Unit {0}) Way → Expr-F (Unit {0}) Meaning
level_of_meanings (Expr-F.Const v) = Expr-F.Const v
level_of_meanings (Expr-F.Read x) = Expr-F.Read x
level_of_meanings (Expr-F.Chain parts ops) = Expr-F.Chain (meanings_of parts) ops
level_of_meanings (Expr-F.Relation rel left right) = Expr-F.Relation rel left.meaning right.meaning
level_of_meanings (Expr-F.Neg part) = Expr-F.Neg part.meaning
level_of_meanings (Expr-F.Not part) = Expr-F.Not part.meaning
level_of_meanings (Expr-F.If conditions branches other) = Expr-F.If (meanings_of conditions) (meanings_of branches) other.meaning
level_of_meanings (Expr-F.Apply function parts) = Expr-F.Apply function (meanings_of parts)
level_of_meanings (Expr-F.Previous x) = Expr-F.Previous x
level_of_meanings (Expr-F.FirstTick x) = Expr-F.FirstTick x
level_of_meanings (Expr-F.IntervalTimes x k) = Expr-F.IntervalTimes x k
level_of_meanings (Expr-F.Hold x) = Expr-F.Hold x
level_of_meanings (Expr-F.«Expr::Convert» conversion x) = Expr-F.«Expr::Convert» conversion x
level_of_meanings (Expr-F.Sample part clock) = Expr-F.Sample part.meaning clock

-- whether the name is reached through a level, and the parts beside the way
abbrev pub reaches_through : ℕ → Expr-F (Unit {0}) Way → Bool
reaches_through x (Expr-F.Read y) = y == x
reaches_through x (Expr-F.Chain parts ops) = list_any (λ way. way.reaches) parts
reaches_through x (Expr-F.Neg part) = part.reaches
reaches_through x (Expr-F.Not part) = part.reaches
reaches_through x _ = false

abbrev pub beside_through : Expr-F (Unit {0}) Way → List Meaning
beside_through (Expr-F.Chain parts ops) = beside_in_chain ops [] parts
beside_through (Expr-F.Neg part) = part.beside
beside_through (Expr-F.Not part) = part.beside
beside_through _ = []

abbrev pub way_through : ℕ → Expr-F (Unit {0}) Way → Way
way_through x level = record {
  meaning = meaning_of_level (level_of_meanings level);
  reaches = reaches_through x level;
  beside = beside_through level;
}

unfoldable pub way_to : ℕ → Expr → Way
way_to x = fold-Expr (Unit {0}) Way (λ _. tt) (way_through x)

-- the parts of an equation beside the way to x, in the order of the text: the other side, and what the way passes by
abbrev pub parts_beside : ℕ → Equation → List Meaning
parts_beside x (Valued left right clause) = beside_of (way_to x left) ++ beside_of (way_to x right)
parts_beside x (Clocks left right clause) = []

-- the kind of the first failure among parts; where all have values, a value that does not fit
abbrev pub kind_of : List Answer → Fail
kind_of [] = TooLarge
kind_of (Fails kind ∷ rest) = kind
kind_of (_ ∷ rest) = kind_of rest
