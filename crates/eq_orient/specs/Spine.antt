-- Where a name stands in an equation that can be solved for it. This project's own.
use Rattle.std.specs.Prelude.{◌≡◌, ℕ, zero, suc, ◌+◌, ◌<◌, Bool, true, false}
use Rattle.flat_model.specs.declared.expression.Expr.{Expr}
use Rattle.flat_model.specs.declared.equation.Equation.{Equation}
use Rattle.flat_model.specs.declared.equation.Equation.TheVariants.{Valued, Clocks}
use Rattle.flat_model.specs.Occurrences.{bare_count, held_count, converted_count, is_reached}
use Rattle.eq_orient.specs.declared.standing.Manner.{Manner}
use Rattle.eq_orient.specs.declared.standing.Manner.TheVariants.{Bare, Held, Converted}
use Rattle.eq_orient.specs.declared.standing.Tally.{Tally}
use Rattle.eq_orient.specs.declared.standing.Tally.TheVariants.{Never, Once, Often}

-- a number of times, told apart as none, one and more
abbrev pub tally : ℕ → Tally
tally zero = Never
tally (suc zero) = Once
tally (suc (suc n)) = Often

-- how often a name stands so in an expression
abbrev pub count_in : Manner → ℕ → Expr → ℕ
count_in Bare x e = bare_count x e
count_in Held x e = held_count x e
count_in Converted x e = converted_count x e

abbrev pub is_bare : Manner → Bool
is_bare Bare = true
is_bare _ = false

abbrev pub is_held : Manner → Bool
is_held Held = true
is_held _ = false

abbrev pub is_converted : Manner → Bool
is_converted Converted = true
is_converted _ = false

-- the name stands bare just once in an equation, and is reached on this side from its root through sums, differences,
-- unary minus and `not`
abbrev pub IsSpineOf : ℕ → Equation → Bool → Type 0
IsSpineOf x (Valued left right clause) true = (bare_count x left + bare_count x right ≡ 1) × (is_reached x left ≡ true)
IsSpineOf x (Valued left right clause) false = (bare_count x left + bare_count x right ≡ 1) × (is_reached x right ≡ true)
IsSpineOf x (Clocks left right clause) side = ⊥

-- the name is the argument of `hold` or of a conversion in an equation
abbrev pub Lags : ℕ → Equation → Type 0
Lags x (Valued left right clause) = 0 < held_count x left + held_count x right + (converted_count x left + converted_count x right)
Lags x (Clocks left right clause) = ⊥

-- the law of a spine: a name stands so on one side at most
abbrev pub SpineLaw : Type 0
SpineLaw = (x : ℕ) (equation : Equation) (a b : Bool) → IsSpineOf x equation a → IsSpineOf x equation b → a ≡ b
