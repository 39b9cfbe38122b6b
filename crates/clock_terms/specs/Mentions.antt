-- What stands in expressions, uncut, and the parts that are cut from them. MLS 3.6, chapter 16, "Clock Partitioning".
use Rattle.std.specs.Prelude.{ℕ, List, [], ◌∷◌, ◌++◌, flat_map, Option, Some, None}
use Rattle.flat_model.specs.declared.expression.Expr.{Expr}
use Rattle.flat_model.specs.declared.clock.Conversion.{Conversion}
use Rattle.flat_model.specs.declared.clock.ClockExpr.{ClockExpr}
use Rattle.clock_terms.specs.declared.data.Cause.{Cause}
use Rattle.clock_terms.specs.declared.data.Cause.TheVariants.{Sampled, Condition}
use Rattle.flat_model.specs.declared.clock.ClockExpr.TheOpen.{ClockExpr-F, Expr-F}
use Rattle.flat_model.specs.declared.clock.ClockExpr.TheViews.{roll-Expr, roll-ClockExpr}
use Rattle.flat_model.specs.declared.clock.ClockExpr.TheFolds.{fold-ClockExpr, fold-Expr, map-ClockExpr, map-Expr}

-- what may stand in a node and say something of clocks
pub data Mention : Type 0 where
  Stands : (name : ℕ) → Mention
  Ticks : Mention
  Samples : Mention
  Holds : (name : ℕ) → Mention
  Converts : (by : Conversion) (name : ℕ) → Mention
  Gives : (clock : ClockExpr) → Mention

-- a part that is cut, with what stands uncut in it
pub record Cut : Type 0 where
  pub cause : Cause
  pub mentions : List Mention

-- an expression with what stands uncut in it and the parts that are cut from it, each in the order of the text
pub record Seen (A : Type 0) : Type 0 where
  pub self : A
  pub mentions : List Mention
  pub cuts : List Cut

abbrev pub SeenExpr : Type 0
SeenExpr = Seen Expr

abbrev pub SeenClock : Type 0
SeenClock = Seen ClockExpr

abbrev pub mentions_of : {A : Type 0} → List (Seen A) → List Mention
mentions_of parts = flat_map (λ part. part.mentions) parts

abbrev pub cuts_of : {A : Type 0} → List (Seen A) → List Cut
cuts_of parts = flat_map (λ part. part.cuts) parts

-- the part itself, and the parts that are cut from it
abbrev pub cut_as : Cause → SeenExpr → List Cut
cut_as cause part = record { cause = cause; mentions = part.mentions } ∷ part.cuts

-- a name given or not
abbrev pub stands_if : Option ℕ → List Mention
stands_if None = []
stands_if (Some x) = Stands x ∷ []

abbrev pub mentions_of_option : Option SeenClock → List Mention
mentions_of_option None = []
mentions_of_option (Some clock) = clock.mentions

abbrev pub cuts_of_option : Option SeenClock → List Cut
cuts_of_option None = []
cuts_of_option (Some clock) = clock.cuts

abbrev pub mentions_of_level : Expr-F SeenClock SeenExpr → List Mention
mentions_of_level (Expr-F.Const v) = []
mentions_of_level (Expr-F.Read x) = Stands x ∷ []
mentions_of_level (Expr-F.Chain parts ops) = mentions_of parts
mentions_of_level (Expr-F.Relation rel left right) = left.mentions ++ right.mentions
mentions_of_level (Expr-F.Neg part) = part.mentions
mentions_of_level (Expr-F.Not part) = part.mentions
mentions_of_level (Expr-F.If conditions branches other) = mentions_of conditions ++ mentions_of branches ++ other.mentions
mentions_of_level (Expr-F.Apply function parts) = mentions_of parts
mentions_of_level (Expr-F.Previous x) = Ticks ∷ Stands x ∷ []
mentions_of_level (Expr-F.FirstTick x) = Ticks ∷ stands_if x
mentions_of_level (Expr-F.IntervalTimes x k) = Ticks ∷ stands_if x
mentions_of_level (Expr-F.Hold x) = Holds x ∷ []
mentions_of_level (Expr-F.«Expr::Convert» by x) = Converts by x ∷ []
mentions_of_level (Expr-F.Sample part clock) = Samples ∷ mentions_of_option clock

abbrev pub cuts_of_level : Expr-F SeenClock SeenExpr → List Cut
cuts_of_level (Expr-F.Chain parts ops) = cuts_of parts
cuts_of_level (Expr-F.Relation rel left right) = left.cuts ++ right.cuts
cuts_of_level (Expr-F.Neg part) = part.cuts
cuts_of_level (Expr-F.Not part) = part.cuts
cuts_of_level (Expr-F.If conditions branches other) = cuts_of conditions ++ cuts_of branches ++ other.cuts
cuts_of_level (Expr-F.Apply function parts) = cuts_of parts
cuts_of_level (Expr-F.Sample part clock) = cut_as Sampled part ++ cuts_of_option clock
cuts_of_level _ = []

abbrev pub seen_level : Expr-F SeenClock SeenExpr → SeenExpr
seen_level level = record {
  self = roll-Expr (map-Expr SeenClock SeenExpr ClockExpr Expr (λ clock. clock.self) (λ part. part.self) level);
  mentions = mentions_of_level level;
  cuts = cuts_of_level level;
}

abbrev pub mentions_of_clock : ClockExpr-F SeenClock SeenExpr → ClockExpr → List Mention
mentions_of_clock (ClockExpr-F.Name x) self = Stands x ∷ []
mentions_of_clock (ClockExpr-F.«ClockExpr::Convert» by x) self = Converts by x ∷ []
mentions_of_clock _ self = Gives self ∷ []

abbrev pub cuts_of_clock : ClockExpr-F SeenClock SeenExpr → List Cut
cuts_of_clock (ClockExpr-F.Event condition) = cut_as Condition condition
cuts_of_clock _ = []

abbrev pub self_of_clock : ClockExpr-F SeenClock SeenExpr → ClockExpr
self_of_clock level = roll-ClockExpr (map-ClockExpr SeenClock SeenExpr ClockExpr Expr (λ clock. clock.self) (λ part. part.self) level)

abbrev pub seen_clock_level : ClockExpr-F SeenClock SeenExpr → SeenClock
seen_clock_level level = record { self = self_of_clock level; mentions = mentions_of_clock level (self_of_clock level); cuts = cuts_of_clock level }

unfoldable pub seen : Expr → SeenExpr
seen = fold-Expr SeenClock SeenExpr seen_clock_level seen_level

unfoldable pub seen_clock : ClockExpr → SeenClock
seen_clock = fold-ClockExpr SeenClock SeenExpr seen_clock_level seen_level

abbrev pub mentions_of_exprs : List Expr → List Mention
mentions_of_exprs parts = flat_map (λ part. (seen part).mentions) parts

-- what stands in a clock that may be there
abbrev pub clock_mentions : Option ClockExpr → List Mention
clock_mentions None = []
clock_mentions (Some clock) = (seen_clock clock).mentions

abbrev pub cuts_of_exprs : List Expr → List Cut
cuts_of_exprs parts = flat_map (λ part. (seen part).cuts) parts

-- what is cut from a clock that may be there
abbrev pub clock_cuts : Option ClockExpr → List Cut
clock_cuts None = []
clock_cuts (Some clock) = (seen_clock clock).cuts
