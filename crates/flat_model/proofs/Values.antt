-- The equations of `value_of`, one for each kind of expression.
use Rattle.std.proofs.Common.{◌≡◌, refl, ap, ◌∙◌, sym, ℕ, List, [], ◌∷◌, Option, map}
use Rattle.sync_values.specs.Arithmetic.{fitted}
use Rattle.sync_values.specs.declared.value.Value.{Value}
use Rattle.sync_values.specs.declared.value.Value.TheVariants as value
use Rattle.sync_values.specs.declared.value.Rel.{Rel}
use Rattle.sync_values.specs.declared.value.ChainOp.{ChainOp}
use Rattle.flat_model.specs.declared.expression.Fun.{Fun}
use Rattle.flat_model.specs.declared.clock.Conversion.{Conversion}
use Rattle.flat_model.specs.declared.clock.ClockExpr.{ClockExpr}
use Rattle.flat_model.specs.declared.expression.Expr.{Expr}
use Rattle.flat_model.specs.declared.expression.Expr.TheVariants.{Const, Read, Chain, Relation, Neg, Not, If, Apply, Previous, FirstTick, IntervalTimes, Hold, Convert, Sample, rolls-Const, rolls-Read, rolls-Chain, rolls-Relation, rolls-Neg, rolls-Not, rolls-If, rolls-Apply, rolls-Previous, rolls-FirstTick, rolls-IntervalTimes, rolls-Hold, rolls-Convert, rolls-Sample}
use Rattle.flat_model.specs.declared.clock.ClockExpr.TheOpen.{Expr-F}
use Rattle.flat_model.specs.declared.clock.ClockExpr.TheFolds.{fold-roll-Expr}
use Rattle.flat_model.specs.Operators.{Is, chain, negated, inverted, relation, chosen, read, settled}
use Rattle.flat_model.specs.Functions.{called}
use Rattle.flat_model.specs.Views.{Views, before}
use Rattle.flat_model.specs.Meaning.{Meaning, meaning_of_level, seen_by, whole_of, value_of, answers}

seen_by-values : (parts : List Expr) (views : Views) → seen_by views (map value_of parts) ≡ answers parts views
seen_by-values [] views = refl
seen_by-values (part ∷ parts) views = ap (λ rest. value_of part views ∷ rest) (seen_by-values parts views)

pub value_of-Const : (v : Value) (views : Views) → value_of (Const v) views ≡ Is v
unfolding value_of
value_of-Const v views =
    ap (λ e. value_of e views) (sym (rolls-Const v)) ∙ ap (λ f. f views) (fold-roll-Expr (Unit {0}) Meaning (λ _. tt) meaning_of_level (Expr-F.Const v))

pub value_of-Read : (x : ℕ) (views : Views) → value_of (Read x) views ≡ read ((views 0).now x)
unfolding value_of
value_of-Read x views =
    ap (λ e. value_of e views) (sym (rolls-Read x)) ∙ ap (λ f. f views) (fold-roll-Expr (Unit {0}) Meaning (λ _. tt) meaning_of_level (Expr-F.Read x))

pub value_of-Chain : (parts : List Expr) (ops : List ChainOp) (views : Views) → value_of (Chain parts ops) views ≡ chain ops (answers parts views)
unfolding value_of
value_of-Chain parts ops views =
    ap (λ e. value_of e views) (sym (rolls-Chain parts ops)) ∙ ap (λ f. f views) (fold-roll-Expr (Unit {0}) Meaning (λ _. tt) meaning_of_level (Expr-F.Chain parts ops)) ∙ ap (chain ops) (seen_by-values parts views)

pub value_of-Relation : (rel : Rel) (left right : Expr) (views : Views) → value_of (Relation rel left right) views ≡ relation rel (value_of left views) (value_of right views)
unfolding value_of
value_of-Relation rel left right views =
    ap (λ e. value_of e views) (sym (rolls-Relation rel left right)) ∙ ap (λ f. f views) (fold-roll-Expr (Unit {0}) Meaning (λ _. tt) meaning_of_level (Expr-F.Relation rel left right))

pub value_of-Neg : (part : Expr) (views : Views) → value_of (Neg part) views ≡ negated (value_of part views)
unfolding value_of
value_of-Neg part views =
    ap (λ e. value_of e views) (sym (rolls-Neg part)) ∙ ap (λ f. f views) (fold-roll-Expr (Unit {0}) Meaning (λ _. tt) meaning_of_level (Expr-F.Neg part))

pub value_of-Not : (part : Expr) (views : Views) → value_of (Not part) views ≡ inverted (value_of part views)
unfolding value_of
value_of-Not part views =
    ap (λ e. value_of e views) (sym (rolls-Not part)) ∙ ap (λ f. f views) (fold-roll-Expr (Unit {0}) Meaning (λ _. tt) meaning_of_level (Expr-F.Not part))

pub value_of-If : (conditions branches : List Expr) (other : Expr) (views : Views) → value_of (If conditions branches other) views ≡ chosen (answers conditions views) (answers branches views) (value_of other views)
unfolding value_of
value_of-If conditions branches other views =
    ap (λ e. value_of e views) (sym (rolls-If conditions branches other)) ∙ ap (λ f. f views) (fold-roll-Expr (Unit {0}) Meaning (λ _. tt) meaning_of_level (Expr-F.If conditions branches other))
    ∙ ap (λ r. chosen r (seen_by views (map value_of branches)) (value_of other views)) (seen_by-values conditions views)
    ∙ ap (λ r. chosen (answers conditions views) r (value_of other views)) (seen_by-values branches views)

pub value_of-Apply : (function : Fun) (parts : List Expr) (views : Views) → value_of (Apply function parts) views ≡ called function (answers parts views)
unfolding value_of
value_of-Apply function parts views =
    ap (λ e. value_of e views) (sym (rolls-Apply function parts)) ∙ ap (λ f. f views) (fold-roll-Expr (Unit {0}) Meaning (λ _. tt) meaning_of_level (Expr-F.Apply function parts)) ∙ ap (called function) (seen_by-values parts views)

pub value_of-Previous : (x : ℕ) (views : Views) → value_of (Previous x) views ≡ read ((views 0).previous x)
unfolding value_of
value_of-Previous x views =
    ap (λ e. value_of e views) (sym (rolls-Previous x)) ∙ ap (λ f. f views) (fold-roll-Expr (Unit {0}) Meaning (λ _. tt) meaning_of_level (Expr-F.Previous x))

pub value_of-FirstTick : (x : Option ℕ) (views : Views) → value_of (FirstTick x) views ≡ Is (value.Bool (views 0).first)
unfolding value_of
value_of-FirstTick x views =
    ap (λ e. value_of e views) (sym (rolls-FirstTick x)) ∙ ap (λ f. f views) (fold-roll-Expr (Unit {0}) Meaning (λ _. tt) meaning_of_level (Expr-F.FirstTick x))

pub value_of-IntervalTimes : (x : Option ℕ) (k : ℕ) (views : Views) → value_of (IntervalTimes x k) views ≡ settled (fitted (whole_of (views 0).interval k))
unfolding value_of
value_of-IntervalTimes x k views =
    ap (λ e. value_of e views) (sym (rolls-IntervalTimes x k)) ∙ ap (λ f. f views) (fold-roll-Expr (Unit {0}) Meaning (λ _. tt) meaning_of_level (Expr-F.IntervalTimes x k))

pub value_of-Hold : (x : ℕ) (views : Views) → value_of (Hold x) views ≡ read ((views 0).last x)
unfolding value_of
value_of-Hold x views =
    ap (λ e. value_of e views) (sym (rolls-Hold x)) ∙ ap (λ f. f views) (fold-roll-Expr (Unit {0}) Meaning (λ _. tt) meaning_of_level (Expr-F.Hold x))

pub value_of-Convert : (conversion : Conversion) (x : ℕ) (views : Views) → value_of (Convert conversion x) views ≡ read ((views 0).last x)
unfolding value_of
value_of-Convert conversion x views =
    ap (λ e. value_of e views) (sym (rolls-Convert conversion x)) ∙ ap (λ f. f views) (fold-roll-Expr (Unit {0}) Meaning (λ _. tt) meaning_of_level (Expr-F.«Expr::Convert» conversion x))

pub value_of-Sample : (part : Expr) (clock : Option ClockExpr) (views : Views) → value_of (Sample part clock) views ≡ value_of part (before views)
unfolding value_of
value_of-Sample part clock views =
    ap (λ e. value_of e views) (sym (rolls-Sample part clock)) ∙ ap (λ f. f views) (fold-roll-Expr (Unit {0}) Meaning (λ _. tt) meaning_of_level (Expr-F.Sample part clock))

-- these, for the tactics
pub ruleset values = (value_of-Const, value_of-Read, value_of-Chain, value_of-Relation, value_of-Neg, value_of-Not, value_of-If, value_of-Apply, value_of-Previous, value_of-FirstTick, value_of-IntervalTimes, value_of-Hold, value_of-Convert, value_of-Sample)
