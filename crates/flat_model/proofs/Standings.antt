-- The equations of `may_stand`, one for each kind of expression.
use Rattle.std.proofs.Common.{◌≡◌, refl, ap, ◌∙◌, sym, ℕ, true, ◌&&◌, List, [], ◌∷◌, Option, map}
use Rattle.sync_values.specs.declared.value.Value.{Value}
use Rattle.sync_values.specs.declared.value.Rel.{Rel}
use Rattle.sync_values.specs.declared.value.ChainOp.{ChainOp}
use Rattle.flat_model.specs.declared.expression.Fun.{Fun}
use Rattle.flat_model.specs.declared.clock.Conversion.{Conversion}
use Rattle.flat_model.specs.declared.clock.ClockExpr.{ClockExpr}
use Rattle.flat_model.specs.declared.expression.Expr.{Expr}
use Rattle.flat_model.specs.declared.expression.Expr.TheVariants.{Const, Read, Chain, Relation, Neg, Not, If, Apply, Previous, FirstTick, IntervalTimes, Hold, Convert, Sample, rolls-Const, rolls-Read, rolls-Chain, rolls-Relation, rolls-Neg, rolls-Not, rolls-If, rolls-Apply, rolls-Previous, rolls-FirstTick, rolls-IntervalTimes, rolls-Hold, rolls-Convert, rolls-Sample}
use Rattle.flat_model.specs.declared.clock.ClockExpr.TheOpen.{Expr-F}
use Rattle.flat_model.specs.declared.clock.ClockExpr.TheFolds.{fold-roll-Expr}
use Rattle.flat_model.specs.declared.evaluate.Vantage.{Vantage}
use Rattle.flat_model.specs.declared.evaluate.Vantage.TheVariants.{Left}
use Rattle.flat_model.specs.Samples.{Standing, all_stand, outside_samples, standing_of_level, may_stand, all_may_stand}

all_stand-parts : (vantage : Vantage) (parts : List Expr) → all_stand vantage (map may_stand parts) ≡ all_may_stand vantage parts
all_stand-parts vantage [] = refl
all_stand-parts vantage (part ∷ parts) = ap (λ rest. may_stand part vantage && rest) (all_stand-parts vantage parts)

pub may_stand-Const : (v : Value) (vantage : Vantage) → may_stand (Const v) vantage ≡ true
unfolding may_stand
may_stand-Const v vantage =
    ap (λ e. may_stand e vantage) (sym (rolls-Const v)) ∙ ap (λ f. f vantage) (fold-roll-Expr (Unit {0}) Standing (λ _. tt) standing_of_level (Expr-F.Const v))

pub may_stand-Read : (x : ℕ) (vantage : Vantage) → may_stand (Read x) vantage ≡ true
unfolding may_stand
may_stand-Read x vantage =
    ap (λ e. may_stand e vantage) (sym (rolls-Read x)) ∙ ap (λ f. f vantage) (fold-roll-Expr (Unit {0}) Standing (λ _. tt) standing_of_level (Expr-F.Read x))

pub may_stand-Chain : (parts : List Expr) (ops : List ChainOp) (vantage : Vantage) → may_stand (Chain parts ops) vantage ≡ all_may_stand vantage parts
unfolding may_stand
may_stand-Chain parts ops vantage =
    ap (λ e. may_stand e vantage) (sym (rolls-Chain parts ops)) ∙ ap (λ f. f vantage) (fold-roll-Expr (Unit {0}) Standing (λ _. tt) standing_of_level (Expr-F.Chain parts ops)) ∙ all_stand-parts vantage parts

pub may_stand-Relation : (rel : Rel) (left right : Expr) (vantage : Vantage) → may_stand (Relation rel left right) vantage ≡ (may_stand left vantage && may_stand right vantage)
unfolding may_stand
may_stand-Relation rel left right vantage =
    ap (λ e. may_stand e vantage) (sym (rolls-Relation rel left right)) ∙ ap (λ f. f vantage) (fold-roll-Expr (Unit {0}) Standing (λ _. tt) standing_of_level (Expr-F.Relation rel left right))

pub may_stand-Neg : (part : Expr) (vantage : Vantage) → may_stand (Neg part) vantage ≡ may_stand part vantage
unfolding may_stand
may_stand-Neg part vantage =
    ap (λ e. may_stand e vantage) (sym (rolls-Neg part)) ∙ ap (λ f. f vantage) (fold-roll-Expr (Unit {0}) Standing (λ _. tt) standing_of_level (Expr-F.Neg part))

pub may_stand-Not : (part : Expr) (vantage : Vantage) → may_stand (Not part) vantage ≡ may_stand part vantage
unfolding may_stand
may_stand-Not part vantage =
    ap (λ e. may_stand e vantage) (sym (rolls-Not part)) ∙ ap (λ f. f vantage) (fold-roll-Expr (Unit {0}) Standing (λ _. tt) standing_of_level (Expr-F.Not part))

pub may_stand-If : (conditions branches : List Expr) (other : Expr) (vantage : Vantage) → may_stand (If conditions branches other) vantage ≡ (all_may_stand vantage conditions && all_may_stand vantage branches && may_stand other vantage)
unfolding may_stand
may_stand-If conditions branches other vantage =
    ap (λ e. may_stand e vantage) (sym (rolls-If conditions branches other)) ∙ ap (λ f. f vantage) (fold-roll-Expr (Unit {0}) Standing (λ _. tt) standing_of_level (Expr-F.If conditions branches other))
    ∙ ap (λ r. r && all_stand vantage (map may_stand branches) && may_stand other vantage) (all_stand-parts vantage conditions)
    ∙ ap (λ r. all_may_stand vantage conditions && r && may_stand other vantage) (all_stand-parts vantage branches)

pub may_stand-Apply : (function : Fun) (parts : List Expr) (vantage : Vantage) → may_stand (Apply function parts) vantage ≡ all_may_stand vantage parts
unfolding may_stand
may_stand-Apply function parts vantage =
    ap (λ e. may_stand e vantage) (sym (rolls-Apply function parts)) ∙ ap (λ f. f vantage) (fold-roll-Expr (Unit {0}) Standing (λ _. tt) standing_of_level (Expr-F.Apply function parts)) ∙ all_stand-parts vantage parts

pub may_stand-Previous : (x : ℕ) (vantage : Vantage) → may_stand (Previous x) vantage ≡ outside_samples vantage
unfolding may_stand
may_stand-Previous x vantage =
    ap (λ e. may_stand e vantage) (sym (rolls-Previous x)) ∙ ap (λ f. f vantage) (fold-roll-Expr (Unit {0}) Standing (λ _. tt) standing_of_level (Expr-F.Previous x))

pub may_stand-FirstTick : (x : Option ℕ) (vantage : Vantage) → may_stand (FirstTick x) vantage ≡ outside_samples vantage
unfolding may_stand
may_stand-FirstTick x vantage =
    ap (λ e. may_stand e vantage) (sym (rolls-FirstTick x)) ∙ ap (λ f. f vantage) (fold-roll-Expr (Unit {0}) Standing (λ _. tt) standing_of_level (Expr-F.FirstTick x))

pub may_stand-IntervalTimes : (x : Option ℕ) (k : ℕ) (vantage : Vantage) → may_stand (IntervalTimes x k) vantage ≡ outside_samples vantage
unfolding may_stand
may_stand-IntervalTimes x k vantage =
    ap (λ e. may_stand e vantage) (sym (rolls-IntervalTimes x k)) ∙ ap (λ f. f vantage) (fold-roll-Expr (Unit {0}) Standing (λ _. tt) standing_of_level (Expr-F.IntervalTimes x k))

pub may_stand-Hold : (x : ℕ) (vantage : Vantage) → may_stand (Hold x) vantage ≡ true
unfolding may_stand
may_stand-Hold x vantage =
    ap (λ e. may_stand e vantage) (sym (rolls-Hold x)) ∙ ap (λ f. f vantage) (fold-roll-Expr (Unit {0}) Standing (λ _. tt) standing_of_level (Expr-F.Hold x))

pub may_stand-Convert : (conversion : Conversion) (x : ℕ) (vantage : Vantage) → may_stand (Convert conversion x) vantage ≡ outside_samples vantage
unfolding may_stand
may_stand-Convert conversion x vantage =
    ap (λ e. may_stand e vantage) (sym (rolls-Convert conversion x)) ∙ ap (λ f. f vantage) (fold-roll-Expr (Unit {0}) Standing (λ _. tt) standing_of_level (Expr-F.«Expr::Convert» conversion x))

pub may_stand-Sample : (part : Expr) (clock : Option ClockExpr) (vantage : Vantage) → may_stand (Sample part clock) vantage ≡ (outside_samples vantage && may_stand part Left)
unfolding may_stand
may_stand-Sample part clock vantage =
    ap (λ e. may_stand e vantage) (sym (rolls-Sample part clock)) ∙ ap (λ f. f vantage) (fold-roll-Expr (Unit {0}) Standing (λ _. tt) standing_of_level (Expr-F.Sample part clock))

-- these, for the tactics
pub ruleset standings = (may_stand-Const, may_stand-Read, may_stand-Chain, may_stand-Relation, may_stand-Neg, may_stand-Not, may_stand-If, may_stand-Apply, may_stand-Previous, may_stand-FirstTick, may_stand-IntervalTimes, may_stand-Hold, may_stand-Convert, may_stand-Sample)
