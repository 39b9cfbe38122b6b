-- What is cut from each kind of expression, and parts taken in turn.
use Rattle.std.proofs.Common.{◌≡◌, refl, ap, ap₂, ◌+◌, ◌<◌, length, get_or, drop, ◌∙◌, sym, ℕ, List, [], ◌∷◌, ◌++◌, Option, Some, None, map}
use Rattle.std.proofs.lemmas.List.{drop_more}
use Rattle.sync_values.specs.declared.value.Value.{Value}
use Rattle.sync_values.specs.declared.value.Rel.{Rel}
use Rattle.sync_values.specs.declared.value.ChainOp.{ChainOp}
use Rattle.flat_model.specs.declared.expression.Fun.{Fun}
use Rattle.flat_model.specs.declared.clock.Conversion.{Conversion}
use Rattle.flat_model.specs.declared.model.FlatName.{FlatName}
use Rattle.flat_model.specs.declared.clock.ClockExpr.{ClockExpr}
use Rattle.flat_model.specs.declared.clock.ClockExpr.TheVariants as clock
use Rattle.flat_model.specs.declared.expression.Expr.{Expr}
use Rattle.flat_model.specs.declared.expression.Expr.TheVariants.{Const, Read, Chain, Relation, Neg, Not, If, Apply, Previous, FirstTick, IntervalTimes, Hold, Convert, Sample, rolls-Const, rolls-Read, rolls-Chain, rolls-Relation, rolls-Neg, rolls-Not, rolls-If, rolls-Apply, rolls-Previous, rolls-FirstTick, rolls-IntervalTimes, rolls-Hold, rolls-Convert, rolls-Sample}
use Rattle.flat_model.specs.declared.clock.ClockExpr.TheOpen.{ClockExpr-F, Expr-F}
use Rattle.flat_model.specs.declared.clock.ClockExpr.TheViews.{roll-Expr}
use Rattle.flat_model.specs.declared.clock.ClockExpr.TheFolds.{fold-roll-Expr, map-Expr}
use Rattle.clock_terms.specs.declared.data.Terms.{Terms}
use Rattle.clock_terms.specs.Nodes.{cut_node}
use Rattle.clock_terms.specs.Mentions.{SeenExpr, SeenClock, seen_level, seen_clock_level, seen, seen_clock, cuts_of, cuts_of_level, cuts_of_exprs, clock_cuts, Cut}
use Rattle.clock_terms.specs.declared.data.Cause.TheVariants.{Sampled, Condition}
use Rattle.clock_terms.proofs.Mentioned.{clock_roll}
use Rattle.clock_terms.specs.Gathered.{with_cuts, with_node}

-- several parts after several others
pub with_cuts-append : (names : List FlatName) (i : ℕ) (t : Terms) (first second : List Cut) → with_cuts names i t (first ++ second) ≡ with_cuts names i (with_cuts names i t first) second
with_cuts-append names i t [] second = refl
with_cuts-append names i t (c ∷ cs) second = with_cuts-append names i (with_node names t (cut_node i c)) cs second

-- one expression more
pub with_expr : (names : List FlatName) (i : ℕ) (t u : Terms) (exprs : List Expr) (k : ℕ) (expr : Expr) → k < length exprs → expr ≡ get_or exprs k expr
    → u ≡ with_cuts names i t (seen expr).cuts
    → with_cuts names i u (cuts_of_exprs (drop (k + 1) exprs)) ≡ with_cuts names i t (cuts_of_exprs (drop k exprs))
with_expr names i t u exprs k expr within is e =
    let whole : drop k exprs ≡ expr ∷ drop (k + 1) exprs = drop_more exprs k expr within ∙ ap (λ p. p ∷ drop (k + 1) exprs) (sym is) in
    rw (e, whole) (sym (with_cuts-append names i t (seen expr).cuts (cuts_of_exprs (drop (k + 1) exprs))))

parts_cuts : (parts : List Expr) → cuts_of (map seen parts) ≡ cuts_of_exprs parts
parts_cuts [] = refl
parts_cuts (part ∷ parts) = ap (λ rest. (seen part).cuts ++ rest) (parts_cuts parts)

-- what is cut from a level that is rolled
cuts_roll : (y : Expr-F ClockExpr Expr) → (seen (roll-Expr y)).cuts ≡ cuts_of_level (map-Expr ClockExpr Expr SeenClock SeenExpr seen_clock seen y)
unfolding seen seen_clock
cuts_roll y = ap (λ s. s.cuts) (fold-roll-Expr SeenClock SeenExpr seen_clock_level seen_level y)

pub cuts-Const : (v : Value) → (seen (Const v)).cuts ≡ []
cuts-Const v = ap (λ e. (seen e).cuts) (sym (rolls-Const v)) ∙ cuts_roll (Expr-F.Const v)

pub cuts-Read : (x : ℕ) → (seen (Read x)).cuts ≡ []
cuts-Read x = ap (λ e. (seen e).cuts) (sym (rolls-Read x)) ∙ cuts_roll (Expr-F.Read x)

pub cuts-Neg : (part : Expr) → (seen (Neg part)).cuts ≡ (seen part).cuts
cuts-Neg part = ap (λ e. (seen e).cuts) (sym (rolls-Neg part)) ∙ cuts_roll (Expr-F.Neg part)

pub cuts-Not : (part : Expr) → (seen (Not part)).cuts ≡ (seen part).cuts
cuts-Not part = ap (λ e. (seen e).cuts) (sym (rolls-Not part)) ∙ cuts_roll (Expr-F.Not part)

pub cuts-Relation : (rel : Rel) (left right : Expr) → (seen (Relation rel left right)).cuts ≡ (seen left).cuts ++ (seen right).cuts
cuts-Relation rel left right = ap (λ e. (seen e).cuts) (sym (rolls-Relation rel left right)) ∙ cuts_roll (Expr-F.Relation rel left right)

pub cuts-Chain : (parts : List Expr) (ops : List ChainOp) → (seen (Chain parts ops)).cuts ≡ cuts_of_exprs parts
cuts-Chain parts ops = ap (λ e. (seen e).cuts) (sym (rolls-Chain parts ops)) ∙ cuts_roll (Expr-F.Chain parts ops) ∙ parts_cuts parts

pub cuts-If : (conditions branches : List Expr) (other : Expr) → (seen (If conditions branches other)).cuts ≡ cuts_of_exprs conditions ++ cuts_of_exprs branches ++ (seen other).cuts
cuts-If conditions branches other = ap (λ e. (seen e).cuts) (sym (rolls-If conditions branches other)) ∙ cuts_roll (Expr-F.If conditions branches other) ∙ ap₂ (λ a b. a ++ b ++ (seen other).cuts) (parts_cuts conditions) (parts_cuts branches)

pub cuts-Apply : (function : Fun) (parts : List Expr) → (seen (Apply function parts)).cuts ≡ cuts_of_exprs parts
cuts-Apply function parts = ap (λ e. (seen e).cuts) (sym (rolls-Apply function parts)) ∙ cuts_roll (Expr-F.Apply function parts) ∙ parts_cuts parts

pub cuts-Previous : (x : ℕ) → (seen (Previous x)).cuts ≡ []
cuts-Previous x = ap (λ e. (seen e).cuts) (sym (rolls-Previous x)) ∙ cuts_roll (Expr-F.Previous x)

pub cuts-FirstTick : (x : Option ℕ) → (seen (FirstTick x)).cuts ≡ []
cuts-FirstTick x = ap (λ e. (seen e).cuts) (sym (rolls-FirstTick x)) ∙ cuts_roll (Expr-F.FirstTick x)

pub cuts-IntervalTimes : (x : Option ℕ) (k : ℕ) → (seen (IntervalTimes x k)).cuts ≡ []
cuts-IntervalTimes x k = ap (λ e. (seen e).cuts) (sym (rolls-IntervalTimes x k)) ∙ cuts_roll (Expr-F.IntervalTimes x k)

pub cuts-Hold : (x : ℕ) → (seen (Hold x)).cuts ≡ []
cuts-Hold x = ap (λ e. (seen e).cuts) (sym (rolls-Hold x)) ∙ cuts_roll (Expr-F.Hold x)

pub cuts-Convert : (by : Conversion) (x : ℕ) → (seen (Convert by x)).cuts ≡ []
cuts-Convert by x = ap (λ e. (seen e).cuts) (sym (rolls-Convert by x)) ∙ cuts_roll (Expr-F.«Expr::Convert» by x)

pub cuts-Sample : (part : Expr) (clock : Option ClockExpr) → (seen (Sample part clock)).cuts ≡ record { cause = Sampled; mentions = (seen part).mentions } ∷ (seen part).cuts ++ clock_cuts clock
cuts-Sample part None = ap (λ e. (seen e).cuts) (sym (rolls-Sample part None)) ∙ cuts_roll (Expr-F.Sample part None)
cuts-Sample part (Some clock) = ap (λ e. (seen e).cuts) (sym (rolls-Sample part (Some clock))) ∙ cuts_roll (Expr-F.Sample part (Some clock))

-- ---- what is cut from clocks

pub cuts-Name : (x : ℕ) → (seen_clock (clock.Name x)).cuts ≡ []
cuts-Name x = ap (λ c. (seen_clock c).cuts) (sym (clock.rolls-Name x)) ∙ ap (λ s. s.cuts) (clock_roll (ClockExpr-F.Name x))

pub cuts-ClockConvert : (by : Conversion) (x : ℕ) → (seen_clock (clock.Convert by x)).cuts ≡ []
cuts-ClockConvert by x = ap (λ c. (seen_clock c).cuts) (sym (clock.rolls-Convert by x)) ∙ ap (λ s. s.cuts) (clock_roll (ClockExpr-F.«ClockExpr::Convert» by x))

pub cuts-Inferred : (seen_clock clock.Inferred).cuts ≡ []
cuts-Inferred = ap (λ c. (seen_clock c).cuts) (sym clock.rolls-Inferred) ∙ ap (λ s. s.cuts) (clock_roll ClockExpr-F.Inferred)

pub cuts-Rational : (n r : ℕ) → (seen_clock (clock.Rational n r)).cuts ≡ []
cuts-Rational n r = ap (λ c. (seen_clock c).cuts) (sym (clock.rolls-Rational n r)) ∙ ap (λ s. s.cuts) (clock_roll (ClockExpr-F.Rational n r))

pub cuts-Event : (condition : Expr) → (seen_clock (clock.Event condition)).cuts ≡ record { cause = Condition; mentions = (seen condition).mentions } ∷ (seen condition).cuts
cuts-Event condition = ap (λ c. (seen_clock c).cuts) (sym (clock.rolls-Event condition)) ∙ ap (λ s. s.cuts) (clock_roll (ClockExpr-F.Event condition))

pub ruleset exprs_cut = (cuts-Const, cuts-Read, cuts-Chain, cuts-Relation, cuts-Neg, cuts-Not, cuts-If, cuts-Apply, cuts-Previous, cuts-FirstTick, cuts-IntervalTimes, cuts-Hold, cuts-Convert, cuts-Sample)

pub ruleset clocks_cut = (cuts-Name, cuts-ClockConvert, cuts-Inferred, cuts-Rational, cuts-Event)

pub ruleset cuts_in_turn = (with_cuts-append)
