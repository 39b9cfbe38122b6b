-- What an expression asks for: of which names, and how many moments back.
use Rattle.std.specs.Prelude.{ℕ, zero, suc, ◌+◌, ◌<◌, ◌==◌, List, [], ◌∷◌}
use Rattle.flat_model.specs.declared.expression.Expr.{Expr}
use Rattle.flat_model.specs.declared.clock.ClockExpr.TheOpen.{Expr-F}
use Rattle.flat_model.specs.declared.clock.ClockExpr.TheFolds.{fold-Expr}
use Rattle.flat_model.specs.Occurrences.{one_if}

-- what may be asked for at one moment: a name's value, last value or value at the tick before, and of the equation's clock whether it ticks for the first time, and its interval
pub data Asking : Type 0 where
  OfNow : (x : ℕ) → Asking
  OfLast : (x : ℕ) → Asking
  OfPrevious : (x : ℕ) → Asking
  OfFirst : Asking
  OfInterval : Asking

abbrev pub is_now : ℕ → Asking → ℕ
is_now y (OfNow x) = one_if (y == x)
is_now y _ = 0

abbrev pub is_last : ℕ → Asking → ℕ
is_last y (OfLast x) = one_if (y == x)
is_last y _ = 0

abbrev pub is_previous : ℕ → Asking → ℕ
is_previous y (OfPrevious x) = one_if (y == x)
is_previous y _ = 0

abbrev pub is_first : Asking → ℕ
is_first OfFirst = 1
is_first _ = 0

abbrev pub is_interval : Asking → ℕ
is_interval OfInterval = 1
is_interval _ = 0

-- how often each is asked for, so many moments back
abbrev pub Asked : Type 0
Asked = ℕ → Asking → ℕ

-- asked for at the moment itself
abbrev pub here : (Asking → ℕ) → Asked
here f zero q = f q
here f (suc d) q = 0

-- asked for a moment earlier, as in the argument of `sample`
abbrev pub earlier : Asked → Asked
earlier part zero q = 0
earlier part (suc d) q = part d q

abbrev pub all_asked : List Asked → Asked
all_asked [] d q = 0
all_asked (part ∷ parts) d q = part d q + all_asked parts d q

abbrev pub asked_in_level : Expr-F (Unit {0}) Asked → Asked
asked_in_level (Expr-F.Const v) d q = 0
asked_in_level (Expr-F.Read x) d q = here (is_now x) d q
asked_in_level (Expr-F.Chain parts ops) d q = all_asked parts d q
asked_in_level (Expr-F.Relation rel left right) d q = left d q + right d q
asked_in_level (Expr-F.Neg part) d q = part d q
asked_in_level (Expr-F.Not part) d q = part d q
asked_in_level (Expr-F.If conditions branches other) d q = all_asked conditions d q + all_asked branches d q + other d q
asked_in_level (Expr-F.Apply function parts) d q = all_asked parts d q
asked_in_level (Expr-F.Previous x) d q = here (is_previous x) d q
asked_in_level (Expr-F.FirstTick x) d q = here is_first d q
asked_in_level (Expr-F.IntervalTimes x k) d q = here is_interval d q
asked_in_level (Expr-F.Hold x) d q = here (is_last x) d q
asked_in_level (Expr-F.«Expr::Convert» conversion x) d q = here (is_last x) d q
asked_in_level (Expr-F.Sample part clock) d q = earlier part d q

-- how often an expression asks for each, so many moments back
unfoldable pub asked : Expr → Asked
asked = fold-Expr (Unit {0}) Asked (λ _. tt) asked_in_level

-- an expression asks for this, so many moments back
abbrev pub AsksFor : Expr → ℕ → Asking → Type 0
AsksFor e back asking = 0 < asked e back asking

-- what may be asked for inside the argument of a `sample`
abbrev pub IsSampled : Asking → Type 0
IsSampled (OfNow y) = Unit {0}
IsSampled (OfLast y) = Unit {0}
IsSampled _ = ⊥
