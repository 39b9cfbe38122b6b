-- What stands in each kind of expression, and mentions taken in turn.
use Rattle.std.proofs.Common.{◌≡◌, refl, ap, ap₂, subst, ◌+◌, ◌<◌, length, get_or, drop, ◌∙◌, sym, ℕ, List, [], ◌∷◌, ◌++◌, Option, Some, None, map}
use Rattle.std.proofs.lemmas.List.{drop_more}
use Rattle.sync_values.specs.declared.value.Value.{Value}
use Rattle.sync_values.specs.declared.value.Rel.{Rel}
use Rattle.sync_values.specs.declared.value.ChainOp.{ChainOp}
use Rattle.flat_model.specs.declared.expression.Fun.{Fun}
use Rattle.flat_model.specs.declared.clock.Conversion.{Conversion}
use Rattle.flat_model.specs.declared.model.FlatName.{FlatName}
use Rattle.flat_model.specs.declared.clock.ClockExpr.{ClockExpr}
use Rattle.flat_model.specs.declared.clock.ClockExpr.TheVariants as clock
use Rattle.flat_model.specs.declared.expression.Expr.{Expr}
use Rattle.flat_model.specs.declared.expression.Expr.TheVariants.{Const, Read, Chain, Relation, Neg, Not, If, Apply, Previous, FirstTick, IntervalTimes, Hold, Convert, Sample, rolls-Const, rolls-Read, rolls-Chain, rolls-Relation, rolls-Neg, rolls-Not, rolls-If, rolls-Apply, rolls-Previous, rolls-FirstTick, rolls-IntervalTimes, rolls-Hold, rolls-Convert, rolls-Sample}
use Rattle.flat_model.specs.declared.clock.ClockExpr.TheOpen.{ClockExpr-F, Expr-F}
use Rattle.flat_model.specs.declared.clock.ClockExpr.TheViews.{roll-Expr, roll-ClockExpr}
use Rattle.flat_model.specs.declared.clock.ClockExpr.TheFolds.{fold-roll-Expr, fold-roll-ClockExpr, map-Expr, map-ClockExpr, ind-Expr}
use Rattle.clock_terms.specs.declared.data.Terms.{Terms}
use Rattle.clock_terms.specs.declared.walk.At.{At}
use Rattle.clock_terms.specs.Mentions.{Mention, Stands, Ticks, Samples, Holds, Converts, Gives, SeenExpr, SeenClock, mentions_of, mentions_of_level, seen_level, seen_clock_level, seen, seen_clock, mentions_of_exprs, stands_if, clock_mentions}
use Rattle.clock_terms.specs.Gathered.{with_mention, with_mentions}

-- several mentions after several others
pub with_mentions-append : (names : List FlatName) (at : At) (t : Terms) (first second : List Mention) → with_mentions names at t (first ++ second) ≡ with_mentions names at (with_mentions names at t first) second
with_mentions-append names at t [] second = refl
with_mentions-append names at t (m ∷ ms) second = with_mentions-append names at (with_mention names at t m) ms second

-- one part more
pub with_part : (names : List FlatName) (at : At) (t u : Terms) (parts : List Expr) (i : ℕ) (part : Expr) → i < length parts → part ≡ get_or parts i part
    → u ≡ with_mentions names at t (seen part).mentions
    → with_mentions names at u (mentions_of_exprs (drop (i + 1) parts)) ≡ with_mentions names at t (mentions_of_exprs (drop i parts))
with_part names at t u parts i part within is e =
    let whole : drop i parts ≡ part ∷ drop (i + 1) parts = drop_more parts i part within ∙ ap (λ p. p ∷ drop (i + 1) parts) (sym is) in
    rw (e, whole) (sym (with_mentions-append names at t (seen part).mentions (mentions_of_exprs (drop (i + 1) parts))))

parts_mentions : (parts : List Expr) → mentions_of (map seen parts) ≡ mentions_of_exprs parts
parts_mentions [] = refl
parts_mentions (part ∷ parts) = ap (λ rest. (seen part).mentions ++ rest) (parts_mentions parts)

-- what stands in a level that is rolled
mentions_roll : (y : Expr-F ClockExpr Expr) → (seen (roll-Expr y)).mentions ≡ mentions_of_level (map-Expr ClockExpr Expr SeenClock SeenExpr seen_clock seen y)
unfolding seen seen_clock
mentions_roll y = ap (λ s. s.mentions) (fold-roll-Expr SeenClock SeenExpr seen_clock_level seen_level y)

pub mentions-Const : (v : Value) → (seen (Const v)).mentions ≡ []
mentions-Const v = ap (λ e. (seen e).mentions) (sym (rolls-Const v)) ∙ mentions_roll (Expr-F.Const v)

pub mentions-Read : (x : ℕ) → (seen (Read x)).mentions ≡ Stands x ∷ []
mentions-Read x = ap (λ e. (seen e).mentions) (sym (rolls-Read x)) ∙ mentions_roll (Expr-F.Read x)

pub mentions-Chain : (parts : List Expr) (ops : List ChainOp) → (seen (Chain parts ops)).mentions ≡ mentions_of_exprs parts
mentions-Chain parts ops = ap (λ e. (seen e).mentions) (sym (rolls-Chain parts ops)) ∙ mentions_roll (Expr-F.Chain parts ops) ∙ parts_mentions parts

pub mentions-Relation : (rel : Rel) (left right : Expr) → (seen (Relation rel left right)).mentions ≡ (seen left).mentions ++ (seen right).mentions
mentions-Relation rel left right = ap (λ e. (seen e).mentions) (sym (rolls-Relation rel left right)) ∙ mentions_roll (Expr-F.Relation rel left right)

pub mentions-Neg : (part : Expr) → (seen (Neg part)).mentions ≡ (seen part).mentions
mentions-Neg part = ap (λ e. (seen e).mentions) (sym (rolls-Neg part)) ∙ mentions_roll (Expr-F.Neg part)

pub mentions-Not : (part : Expr) → (seen (Not part)).mentions ≡ (seen part).mentions
mentions-Not part = ap (λ e. (seen e).mentions) (sym (rolls-Not part)) ∙ mentions_roll (Expr-F.Not part)

pub mentions-If : (conditions branches : List Expr) (other : Expr) → (seen (If conditions branches other)).mentions ≡ mentions_of_exprs conditions ++ mentions_of_exprs branches ++ (seen other).mentions
mentions-If conditions branches other =
    ap (λ e. (seen e).mentions) (sym (rolls-If conditions branches other)) ∙ mentions_roll (Expr-F.If conditions branches other)
    ∙ ap₂ (λ a b. a ++ b ++ (seen other).mentions) (parts_mentions conditions) (parts_mentions branches)

pub mentions-Apply : (function : Fun) (parts : List Expr) → (seen (Apply function parts)).mentions ≡ mentions_of_exprs parts
mentions-Apply function parts = ap (λ e. (seen e).mentions) (sym (rolls-Apply function parts)) ∙ mentions_roll (Expr-F.Apply function parts) ∙ parts_mentions parts

pub mentions-Previous : (x : ℕ) → (seen (Previous x)).mentions ≡ Ticks ∷ stands_if (Some x)
mentions-Previous x = ap (λ e. (seen e).mentions) (sym (rolls-Previous x)) ∙ mentions_roll (Expr-F.Previous x)

pub mentions-FirstTick : (x : Option ℕ) → (seen (FirstTick x)).mentions ≡ Ticks ∷ stands_if x
mentions-FirstTick x = ap (λ e. (seen e).mentions) (sym (rolls-FirstTick x)) ∙ mentions_roll (Expr-F.FirstTick x)

pub mentions-IntervalTimes : (x : Option ℕ) (k : ℕ) → (seen (IntervalTimes x k)).mentions ≡ Ticks ∷ stands_if x
mentions-IntervalTimes x k = ap (λ e. (seen e).mentions) (sym (rolls-IntervalTimes x k)) ∙ mentions_roll (Expr-F.IntervalTimes x k)

pub mentions-Hold : (x : ℕ) → (seen (Hold x)).mentions ≡ Holds x ∷ []
mentions-Hold x = ap (λ e. (seen e).mentions) (sym (rolls-Hold x)) ∙ mentions_roll (Expr-F.Hold x)

pub mentions-Convert : (by : Conversion) (x : ℕ) → (seen (Convert by x)).mentions ≡ Converts by x ∷ []
mentions-Convert by x = ap (λ e. (seen e).mentions) (sym (rolls-Convert by x)) ∙ mentions_roll (Expr-F.«Expr::Convert» by x)

pub mentions-Sample : (part : Expr) (clock : Option ClockExpr) → (seen (Sample part clock)).mentions ≡ Samples ∷ clock_mentions clock
mentions-Sample part None = ap (λ e. (seen e).mentions) (sym (rolls-Sample part None)) ∙ mentions_roll (Expr-F.Sample part None)
mentions-Sample part (Some clock) = ap (λ e. (seen e).mentions) (sym (rolls-Sample part (Some clock))) ∙ mentions_roll (Expr-F.Sample part (Some clock))

-- ---- each expression is itself

self_roll : (y : Expr-F ClockExpr Expr) → (seen (roll-Expr y)).self ≡ roll-Expr (map-Expr SeenClock SeenExpr ClockExpr Expr (λ clock. clock.self) (λ part. part.self) (map-Expr ClockExpr Expr SeenClock SeenExpr seen_clock seen y))
unfolding seen seen_clock
self_roll y = ap (λ s. s.self) (fold-roll-Expr SeenClock SeenExpr seen_clock_level seen_level y)

pub clock_roll : (y : ClockExpr-F ClockExpr Expr) → seen_clock (roll-ClockExpr y) ≡ seen_clock_level (map-ClockExpr ClockExpr Expr SeenClock SeenExpr seen_clock seen y)
unfolding seen seen_clock
clock_roll y = fold-roll-ClockExpr SeenClock SeenExpr seen_clock_level seen_level y

abbrev IsItself : Expr → Type 0
IsItself e = (seen e).self ≡ e

abbrev IsClockItself : ClockExpr → Type 0
IsClockItself c = (seen_clock c).self ≡ c

all_selves : {B : Type 0} (g : B → Expr) → ((b : B) → IsItself (g b)) → (parts : List B) → map (λ part. part.self) (map seen (map g parts)) ≡ map g parts
all_selves g all [] = refl
all_selves g all (part ∷ parts) = ap₂ (λ x xs. x ∷ xs) (all part) (all_selves g all parts)

module _ {A B : Type 0} (f : A → ClockExpr) (g : B → Expr) (clocks : (a : A) → IsClockItself (f a)) (all : (b : B) → IsItself (g b)) where
  abbrev again : Expr-F ClockExpr Expr → Expr-F ClockExpr Expr
  again y = map-Expr SeenClock SeenExpr ClockExpr Expr (λ clock. clock.self) (λ part. part.self) (map-Expr ClockExpr Expr SeenClock SeenExpr seen_clock seen y)

  level_same : (y : Expr-F A B) → again (map-Expr A B ClockExpr Expr f g y) ≡ map-Expr A B ClockExpr Expr f g y
  level_same (Expr-F.Const v) = refl
  level_same (Expr-F.Read x) = refl
  level_same (Expr-F.Chain parts ops) = ap (λ ps. Expr-F.Chain ps ops) (all_selves g all parts)
  level_same (Expr-F.Relation rel left right) = ap₂ (λ a b. Expr-F.Relation rel a b) (all left) (all right)
  level_same (Expr-F.Neg part) = ap (λ p. Expr-F.Neg p) (all part)
  level_same (Expr-F.Not part) = ap (λ p. Expr-F.Not p) (all part)
  level_same (Expr-F.If conditions branches other) =
      ap₂ (λ cs bs. Expr-F.If cs bs (seen (g other)).self) (all_selves g all conditions) (all_selves g all branches)
      ∙ ap (λ o. Expr-F.If (map g conditions) (map g branches) o) (all other)
  level_same (Expr-F.Apply function parts) = ap (λ ps. Expr-F.Apply function ps) (all_selves g all parts)
  level_same (Expr-F.Previous x) = refl
  level_same (Expr-F.FirstTick x) = refl
  level_same (Expr-F.IntervalTimes x k) = refl
  level_same (Expr-F.Hold x) = refl
  level_same (Expr-F.«Expr::Convert» by x) = refl
  level_same (Expr-F.Sample part None) = ap (λ p. Expr-F.Sample p None) (all part)
  level_same (Expr-F.Sample part (Some clock)) = ap₂ (λ p c. Expr-F.Sample p (Some c)) (all part) (clocks clock)

  itself : (y : Expr-F A B) → IsItself (roll-Expr (map-Expr A B ClockExpr Expr f g y))
  itself y = self_roll (map-Expr A B ClockExpr Expr f g y) ∙ ap roll-Expr (level_same y)

  clock_level_same : (y : ClockExpr-F A B) → IsClockItself (roll-ClockExpr (map-ClockExpr A B ClockExpr Expr f g y))
  clock_level_same (ClockExpr-F.Name x) = ap (λ s. s.self) (clock_roll (ClockExpr-F.Name x))
  clock_level_same ClockExpr-F.Inferred = ap (λ s. s.self) (clock_roll ClockExpr-F.Inferred)
  clock_level_same (ClockExpr-F.Rational n r) = ap (λ s. s.self) (clock_roll (ClockExpr-F.Rational n r))
  clock_level_same (ClockExpr-F.Event condition) = ap (λ s. s.self) (clock_roll (ClockExpr-F.Event (g condition))) ∙ ap (λ e. roll-ClockExpr (ClockExpr-F.Event e)) (all condition)
  clock_level_same (ClockExpr-F.«ClockExpr::Convert» by x) = ap (λ s. s.self) (clock_roll (ClockExpr-F.«ClockExpr::Convert» by x))

pub seen_self : (e : Expr) → IsItself e
seen_self = ind-Expr IsClockItself IsItself
    (λ x y is. subst (λ z. IsClockItself (roll-ClockExpr z)) is (clock_level_same (λ c. c.0) (λ e. e.0) (λ c. c.1) (λ e. e.1) y))
    (λ x y is. subst (λ z. IsItself (roll-Expr z)) is (itself (λ c. c.0) (λ e. e.0) (λ c. c.1) (λ e. e.1) y))

-- ---- what stands in clocks

pub mentions-Name : (x : ℕ) → (seen_clock (clock.Name x)).mentions ≡ Stands x ∷ []
mentions-Name x = ap (λ c. (seen_clock c).mentions) (sym (clock.rolls-Name x)) ∙ ap (λ s. s.mentions) (clock_roll (ClockExpr-F.Name x))

pub mentions-ClockConvert : (by : Conversion) (x : ℕ) → (seen_clock (clock.Convert by x)).mentions ≡ Converts by x ∷ []
mentions-ClockConvert by x = ap (λ c. (seen_clock c).mentions) (sym (clock.rolls-Convert by x)) ∙ ap (λ s. s.mentions) (clock_roll (ClockExpr-F.«ClockExpr::Convert» by x))

pub mentions-Inferred : (seen_clock clock.Inferred).mentions ≡ Gives clock.Inferred ∷ []
mentions-Inferred = ap (λ c. (seen_clock c).mentions) (sym clock.rolls-Inferred) ∙ ap (λ s. s.mentions) (clock_roll ClockExpr-F.Inferred) ∙ ap (λ c. Gives c ∷ []) clock.rolls-Inferred

pub mentions-Rational : (n r : ℕ) → (seen_clock (clock.Rational n r)).mentions ≡ Gives (clock.Rational n r) ∷ []
mentions-Rational n r = ap (λ c. (seen_clock c).mentions) (sym (clock.rolls-Rational n r)) ∙ ap (λ s. s.mentions) (clock_roll (ClockExpr-F.Rational n r)) ∙ ap (λ c. Gives c ∷ []) (clock.rolls-Rational n r)

pub mentions-Event : (condition : Expr) → (seen_clock (clock.Event condition)).mentions ≡ Gives (clock.Event condition) ∷ []
mentions-Event condition = ap (λ c. (seen_clock c).mentions) (sym (clock.rolls-Event condition)) ∙ ap (λ s. s.mentions) (clock_roll (ClockExpr-F.Event condition))
    ∙ ap (λ e. Gives (roll-ClockExpr (ClockExpr-F.Event e)) ∷ []) (seen_self condition) ∙ ap (λ c. Gives c ∷ []) (clock.rolls-Event condition)

pub ruleset mentioned = (mentions-Const, mentions-Read, mentions-Chain, mentions-Relation, mentions-Neg, mentions-Not, mentions-If, mentions-Apply, mentions-Previous, mentions-FirstTick, mentions-IntervalTimes, mentions-Hold, mentions-Convert, mentions-Sample)

pub ruleset clocks_mentioned = (mentions-Name, mentions-ClockConvert, mentions-Inferred, mentions-Rational, mentions-Event)

pub ruleset mentions_in_turn = (with_mentions-append)
