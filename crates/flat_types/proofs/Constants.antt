-- The equations of `is_constant`, one for each kind of expression.
use Rattle.std.proofs.Common.{◌≡◌, ap, ◌∙◌, sym, ℕ, Bool, true, false, ◌&&◌, List, map, Option}
use Rattle.std.specs.List.{list_all}
use Rattle.sync_values.specs.declared.value.Value.{Value}
use Rattle.sync_values.specs.declared.value.Rel.{Rel}
use Rattle.sync_values.specs.declared.value.ChainOp.{ChainOp}
use Rattle.flat_model.specs.declared.expression.Fun.{Fun}
use Rattle.flat_model.specs.declared.clock.Conversion.{Conversion}
use Rattle.flat_model.specs.declared.clock.ClockExpr.{ClockExpr}
use Rattle.flat_model.specs.declared.clock.ClockExpr.TheOpen.{Expr-F}
use Rattle.flat_model.specs.declared.clock.ClockExpr.TheFolds.{fold-roll-Expr}
use Rattle.flat_model.specs.declared.expression.Expr.{Expr}
use Rattle.flat_model.specs.declared.expression.Expr.TheVariants as e
use Rattle.flat_types.specs.Outcomes.{is_constant, constant_level}

pub constant-Const : (v : Value) → is_constant (e.Const v) ≡ true
unfolding is_constant
constant-Const v = ap is_constant (sym (e.rolls-Const v)) ∙ fold-roll-Expr (Unit {0}) Bool (λ _. tt) constant_level (Expr-F.Const v)

pub constant-Read : (x : ℕ) → is_constant (e.Read x) ≡ false
unfolding is_constant
constant-Read x = ap is_constant (sym (e.rolls-Read x)) ∙ fold-roll-Expr (Unit {0}) Bool (λ _. tt) constant_level (Expr-F.Read x)

pub constant-Chain : (parts : List Expr) (ops : List ChainOp) → is_constant (e.Chain parts ops) ≡ list_all (λ part. part) (map is_constant parts)
unfolding is_constant
constant-Chain parts ops = ap is_constant (sym (e.rolls-Chain parts ops)) ∙ fold-roll-Expr (Unit {0}) Bool (λ _. tt) constant_level (Expr-F.Chain parts ops)

pub constant-Relation : (rel : Rel) (left right : Expr) → is_constant (e.Relation rel left right) ≡ (is_constant left && is_constant right)
unfolding is_constant
constant-Relation rel left right = ap is_constant (sym (e.rolls-Relation rel left right)) ∙ fold-roll-Expr (Unit {0}) Bool (λ _. tt) constant_level (Expr-F.Relation rel left right)

pub constant-Neg : (part : Expr) → is_constant (e.Neg part) ≡ is_constant part
unfolding is_constant
constant-Neg part = ap is_constant (sym (e.rolls-Neg part)) ∙ fold-roll-Expr (Unit {0}) Bool (λ _. tt) constant_level (Expr-F.Neg part)

pub constant-Not : (part : Expr) → is_constant (e.Not part) ≡ is_constant part
unfolding is_constant
constant-Not part = ap is_constant (sym (e.rolls-Not part)) ∙ fold-roll-Expr (Unit {0}) Bool (λ _. tt) constant_level (Expr-F.Not part)

pub constant-If : (conditions branches : List Expr) (other : Expr) → is_constant (e.If conditions branches other) ≡ (list_all (λ part. part) (map is_constant conditions) && list_all (λ part. part) (map is_constant branches) && is_constant other)
unfolding is_constant
constant-If conditions branches other = ap is_constant (sym (e.rolls-If conditions branches other)) ∙ fold-roll-Expr (Unit {0}) Bool (λ _. tt) constant_level (Expr-F.If conditions branches other)

pub constant-Apply : (function : Fun) (parts : List Expr) → is_constant (e.Apply function parts) ≡ list_all (λ part. part) (map is_constant parts)
unfolding is_constant
constant-Apply function parts = ap is_constant (sym (e.rolls-Apply function parts)) ∙ fold-roll-Expr (Unit {0}) Bool (λ _. tt) constant_level (Expr-F.Apply function parts)

pub constant-Previous : (x : ℕ) → is_constant (e.Previous x) ≡ false
unfolding is_constant
constant-Previous x = ap is_constant (sym (e.rolls-Previous x)) ∙ fold-roll-Expr (Unit {0}) Bool (λ _. tt) constant_level (Expr-F.Previous x)

pub constant-FirstTick : (x : Option ℕ) → is_constant (e.FirstTick x) ≡ false
unfolding is_constant
constant-FirstTick x = ap is_constant (sym (e.rolls-FirstTick x)) ∙ fold-roll-Expr (Unit {0}) Bool (λ _. tt) constant_level (Expr-F.FirstTick x)

pub constant-IntervalTimes : (x : Option ℕ) (k : ℕ) → is_constant (e.IntervalTimes x k) ≡ false
unfolding is_constant
constant-IntervalTimes x k = ap is_constant (sym (e.rolls-IntervalTimes x k)) ∙ fold-roll-Expr (Unit {0}) Bool (λ _. tt) constant_level (Expr-F.IntervalTimes x k)

pub constant-Hold : (x : ℕ) → is_constant (e.Hold x) ≡ false
unfolding is_constant
constant-Hold x = ap is_constant (sym (e.rolls-Hold x)) ∙ fold-roll-Expr (Unit {0}) Bool (λ _. tt) constant_level (Expr-F.Hold x)

pub constant-Convert : (conversion : Conversion) (x : ℕ) → is_constant (e.Convert conversion x) ≡ false
unfolding is_constant
constant-Convert conversion x = ap is_constant (sym (e.rolls-Convert conversion x)) ∙ fold-roll-Expr (Unit {0}) Bool (λ _. tt) constant_level (Expr-F.«Expr::Convert» conversion x)

pub constant-Sample : (part : Expr) (clock : Option ClockExpr) → is_constant (e.Sample part clock) ≡ false
unfolding is_constant
constant-Sample part clock = ap is_constant (sym (e.rolls-Sample part clock)) ∙ fold-roll-Expr (Unit {0}) Bool (λ _. tt) constant_level (Expr-F.Sample part clock)

pub ruleset constants = (constant-Const, constant-Read, constant-Chain, constant-Relation, constant-Neg, constant-Not, constant-If, constant-Apply, constant-Previous, constant-FirstTick, constant-IntervalTimes, constant-Hold, constant-Convert, constant-Sample)
