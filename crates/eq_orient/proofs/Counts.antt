-- The equations of `count_in`, one for each kind of expression.
use Rattle.std.proofs.Common.{◌≡◌, ap, ◌∙◌, sym, ℕ, ◌+◌, ◌==◌, ◌&&◌, List, Option, map, sum}
use Rattle.sync_values.specs.declared.value.Value.{Value}
use Rattle.sync_values.specs.declared.value.Rel.{Rel}
use Rattle.sync_values.specs.declared.value.ChainOp.{ChainOp}
use Rattle.flat_model.specs.declared.expression.Fun.{Fun}
use Rattle.flat_model.specs.declared.clock.Conversion.{Conversion}
use Rattle.flat_model.specs.declared.clock.ClockExpr.{ClockExpr}
use Rattle.flat_model.specs.declared.expression.Expr.{Expr}
use Rattle.flat_model.specs.declared.expression.Expr.TheVariants.{Const, Read, Chain, Relation, Neg, Not, If, Apply, Previous, FirstTick, IntervalTimes, Hold, Convert, Sample, rolls-Const, rolls-Read, rolls-Chain, rolls-Relation, rolls-Neg, rolls-Not, rolls-If, rolls-Apply, rolls-Previous, rolls-FirstTick, rolls-IntervalTimes, rolls-Hold, rolls-Convert, rolls-Sample}
use Rattle.flat_model.specs.declared.clock.ClockExpr.TheOpen.{Expr-F}
use Rattle.flat_model.specs.declared.clock.ClockExpr.TheFolds.{fold-roll-Expr}
use Rattle.flat_model.specs.Occurrences.{bare_count, bare_in_level, held_count, held_in_level, converted_count, converted_in_level, one_if}
use Rattle.eq_orient.specs.declared.standing.Manner.{Manner}
use Rattle.eq_orient.specs.declared.standing.Manner.TheVariants as manner
use Rattle.eq_orient.specs.Spine.{count_in, is_bare, is_held, is_converted}

pub count_in-Const : (m : Manner) (x : ℕ) (v : Value) → count_in m x (Const v) ≡ 0
unfolding bare_count held_count converted_count
count_in-Const manner.Bare x v = ap (bare_count x) (sym (rolls-Const v)) ∙ fold-roll-Expr (Unit {0}) ℕ (λ _. tt) (bare_in_level x) (Expr-F.Const v)
count_in-Const manner.Held x v = ap (held_count x) (sym (rolls-Const v)) ∙ fold-roll-Expr (Unit {0}) ℕ (λ _. tt) (held_in_level x) (Expr-F.Const v)
count_in-Const manner.Converted x v = ap (converted_count x) (sym (rolls-Const v)) ∙ fold-roll-Expr (Unit {0}) ℕ (λ _. tt) (converted_in_level x) (Expr-F.Const v)

pub count_in-Read : (m : Manner) (x : ℕ) (y : ℕ) → count_in m x (Read y) ≡ one_if (is_bare m && y == x)
unfolding bare_count held_count converted_count
count_in-Read manner.Bare x y = ap (bare_count x) (sym (rolls-Read y)) ∙ fold-roll-Expr (Unit {0}) ℕ (λ _. tt) (bare_in_level x) (Expr-F.Read y)
count_in-Read manner.Held x y = ap (held_count x) (sym (rolls-Read y)) ∙ fold-roll-Expr (Unit {0}) ℕ (λ _. tt) (held_in_level x) (Expr-F.Read y)
count_in-Read manner.Converted x y = ap (converted_count x) (sym (rolls-Read y)) ∙ fold-roll-Expr (Unit {0}) ℕ (λ _. tt) (converted_in_level x) (Expr-F.Read y)

pub count_in-Chain : (m : Manner) (x : ℕ) (parts : List Expr) (ops : List ChainOp) → count_in m x (Chain parts ops) ≡ sum (map (count_in m x) parts)
unfolding bare_count held_count converted_count
count_in-Chain manner.Bare x parts ops = ap (bare_count x) (sym (rolls-Chain parts ops)) ∙ fold-roll-Expr (Unit {0}) ℕ (λ _. tt) (bare_in_level x) (Expr-F.Chain parts ops)
count_in-Chain manner.Held x parts ops = ap (held_count x) (sym (rolls-Chain parts ops)) ∙ fold-roll-Expr (Unit {0}) ℕ (λ _. tt) (held_in_level x) (Expr-F.Chain parts ops)
count_in-Chain manner.Converted x parts ops = ap (converted_count x) (sym (rolls-Chain parts ops)) ∙ fold-roll-Expr (Unit {0}) ℕ (λ _. tt) (converted_in_level x) (Expr-F.Chain parts ops)

pub count_in-Relation : (m : Manner) (x : ℕ) (rel : Rel) (left right : Expr) → count_in m x (Relation rel left right) ≡ count_in m x left + count_in m x right
unfolding bare_count held_count converted_count
count_in-Relation manner.Bare x rel left right = ap (bare_count x) (sym (rolls-Relation rel left right)) ∙ fold-roll-Expr (Unit {0}) ℕ (λ _. tt) (bare_in_level x) (Expr-F.Relation rel left right)
count_in-Relation manner.Held x rel left right = ap (held_count x) (sym (rolls-Relation rel left right)) ∙ fold-roll-Expr (Unit {0}) ℕ (λ _. tt) (held_in_level x) (Expr-F.Relation rel left right)
count_in-Relation manner.Converted x rel left right = ap (converted_count x) (sym (rolls-Relation rel left right)) ∙ fold-roll-Expr (Unit {0}) ℕ (λ _. tt) (converted_in_level x) (Expr-F.Relation rel left right)

pub count_in-Neg : (m : Manner) (x : ℕ) (part : Expr) → count_in m x (Neg part) ≡ count_in m x part
unfolding bare_count held_count converted_count
count_in-Neg manner.Bare x part = ap (bare_count x) (sym (rolls-Neg part)) ∙ fold-roll-Expr (Unit {0}) ℕ (λ _. tt) (bare_in_level x) (Expr-F.Neg part)
count_in-Neg manner.Held x part = ap (held_count x) (sym (rolls-Neg part)) ∙ fold-roll-Expr (Unit {0}) ℕ (λ _. tt) (held_in_level x) (Expr-F.Neg part)
count_in-Neg manner.Converted x part = ap (converted_count x) (sym (rolls-Neg part)) ∙ fold-roll-Expr (Unit {0}) ℕ (λ _. tt) (converted_in_level x) (Expr-F.Neg part)

pub count_in-Not : (m : Manner) (x : ℕ) (part : Expr) → count_in m x (Not part) ≡ count_in m x part
unfolding bare_count held_count converted_count
count_in-Not manner.Bare x part = ap (bare_count x) (sym (rolls-Not part)) ∙ fold-roll-Expr (Unit {0}) ℕ (λ _. tt) (bare_in_level x) (Expr-F.Not part)
count_in-Not manner.Held x part = ap (held_count x) (sym (rolls-Not part)) ∙ fold-roll-Expr (Unit {0}) ℕ (λ _. tt) (held_in_level x) (Expr-F.Not part)
count_in-Not manner.Converted x part = ap (converted_count x) (sym (rolls-Not part)) ∙ fold-roll-Expr (Unit {0}) ℕ (λ _. tt) (converted_in_level x) (Expr-F.Not part)

pub count_in-If : (m : Manner) (x : ℕ) (conditions branches : List Expr) (other : Expr) → count_in m x (If conditions branches other) ≡ sum (map (count_in m x) conditions) + sum (map (count_in m x) branches) + count_in m x other
unfolding bare_count held_count converted_count
count_in-If manner.Bare x conditions branches other = ap (bare_count x) (sym (rolls-If conditions branches other)) ∙ fold-roll-Expr (Unit {0}) ℕ (λ _. tt) (bare_in_level x) (Expr-F.If conditions branches other)
count_in-If manner.Held x conditions branches other = ap (held_count x) (sym (rolls-If conditions branches other)) ∙ fold-roll-Expr (Unit {0}) ℕ (λ _. tt) (held_in_level x) (Expr-F.If conditions branches other)
count_in-If manner.Converted x conditions branches other = ap (converted_count x) (sym (rolls-If conditions branches other)) ∙ fold-roll-Expr (Unit {0}) ℕ (λ _. tt) (converted_in_level x) (Expr-F.If conditions branches other)

pub count_in-Apply : (m : Manner) (x : ℕ) (function : Fun) (parts : List Expr) → count_in m x (Apply function parts) ≡ sum (map (count_in m x) parts)
unfolding bare_count held_count converted_count
count_in-Apply manner.Bare x function parts = ap (bare_count x) (sym (rolls-Apply function parts)) ∙ fold-roll-Expr (Unit {0}) ℕ (λ _. tt) (bare_in_level x) (Expr-F.Apply function parts)
count_in-Apply manner.Held x function parts = ap (held_count x) (sym (rolls-Apply function parts)) ∙ fold-roll-Expr (Unit {0}) ℕ (λ _. tt) (held_in_level x) (Expr-F.Apply function parts)
count_in-Apply manner.Converted x function parts = ap (converted_count x) (sym (rolls-Apply function parts)) ∙ fold-roll-Expr (Unit {0}) ℕ (λ _. tt) (converted_in_level x) (Expr-F.Apply function parts)

pub count_in-Previous : (m : Manner) (x : ℕ) (y : ℕ) → count_in m x (Previous y) ≡ 0
unfolding bare_count held_count converted_count
count_in-Previous manner.Bare x y = ap (bare_count x) (sym (rolls-Previous y)) ∙ fold-roll-Expr (Unit {0}) ℕ (λ _. tt) (bare_in_level x) (Expr-F.Previous y)
count_in-Previous manner.Held x y = ap (held_count x) (sym (rolls-Previous y)) ∙ fold-roll-Expr (Unit {0}) ℕ (λ _. tt) (held_in_level x) (Expr-F.Previous y)
count_in-Previous manner.Converted x y = ap (converted_count x) (sym (rolls-Previous y)) ∙ fold-roll-Expr (Unit {0}) ℕ (λ _. tt) (converted_in_level x) (Expr-F.Previous y)

pub count_in-FirstTick : (m : Manner) (x : ℕ) (y : Option ℕ) → count_in m x (FirstTick y) ≡ 0
unfolding bare_count held_count converted_count
count_in-FirstTick manner.Bare x y = ap (bare_count x) (sym (rolls-FirstTick y)) ∙ fold-roll-Expr (Unit {0}) ℕ (λ _. tt) (bare_in_level x) (Expr-F.FirstTick y)
count_in-FirstTick manner.Held x y = ap (held_count x) (sym (rolls-FirstTick y)) ∙ fold-roll-Expr (Unit {0}) ℕ (λ _. tt) (held_in_level x) (Expr-F.FirstTick y)
count_in-FirstTick manner.Converted x y = ap (converted_count x) (sym (rolls-FirstTick y)) ∙ fold-roll-Expr (Unit {0}) ℕ (λ _. tt) (converted_in_level x) (Expr-F.FirstTick y)

pub count_in-IntervalTimes : (m : Manner) (x : ℕ) (y : Option ℕ) (k : ℕ) → count_in m x (IntervalTimes y k) ≡ 0
unfolding bare_count held_count converted_count
count_in-IntervalTimes manner.Bare x y k = ap (bare_count x) (sym (rolls-IntervalTimes y k)) ∙ fold-roll-Expr (Unit {0}) ℕ (λ _. tt) (bare_in_level x) (Expr-F.IntervalTimes y k)
count_in-IntervalTimes manner.Held x y k = ap (held_count x) (sym (rolls-IntervalTimes y k)) ∙ fold-roll-Expr (Unit {0}) ℕ (λ _. tt) (held_in_level x) (Expr-F.IntervalTimes y k)
count_in-IntervalTimes manner.Converted x y k = ap (converted_count x) (sym (rolls-IntervalTimes y k)) ∙ fold-roll-Expr (Unit {0}) ℕ (λ _. tt) (converted_in_level x) (Expr-F.IntervalTimes y k)

pub count_in-Hold : (m : Manner) (x : ℕ) (y : ℕ) → count_in m x (Hold y) ≡ one_if (is_held m && y == x)
unfolding bare_count held_count converted_count
count_in-Hold manner.Bare x y = ap (bare_count x) (sym (rolls-Hold y)) ∙ fold-roll-Expr (Unit {0}) ℕ (λ _. tt) (bare_in_level x) (Expr-F.Hold y)
count_in-Hold manner.Held x y = ap (held_count x) (sym (rolls-Hold y)) ∙ fold-roll-Expr (Unit {0}) ℕ (λ _. tt) (held_in_level x) (Expr-F.Hold y)
count_in-Hold manner.Converted x y = ap (converted_count x) (sym (rolls-Hold y)) ∙ fold-roll-Expr (Unit {0}) ℕ (λ _. tt) (converted_in_level x) (Expr-F.Hold y)

pub count_in-Convert : (m : Manner) (x : ℕ) (conversion : Conversion) (y : ℕ) → count_in m x (Convert conversion y) ≡ one_if (is_converted m && y == x)
unfolding bare_count held_count converted_count
count_in-Convert manner.Bare x conversion y = ap (bare_count x) (sym (rolls-Convert conversion y)) ∙ fold-roll-Expr (Unit {0}) ℕ (λ _. tt) (bare_in_level x) (Expr-F.«Expr::Convert» conversion y)
count_in-Convert manner.Held x conversion y = ap (held_count x) (sym (rolls-Convert conversion y)) ∙ fold-roll-Expr (Unit {0}) ℕ (λ _. tt) (held_in_level x) (Expr-F.«Expr::Convert» conversion y)
count_in-Convert manner.Converted x conversion y = ap (converted_count x) (sym (rolls-Convert conversion y)) ∙ fold-roll-Expr (Unit {0}) ℕ (λ _. tt) (converted_in_level x) (Expr-F.«Expr::Convert» conversion y)

pub count_in-Sample : (m : Manner) (x : ℕ) (part : Expr) (clock : Option ClockExpr) → count_in m x (Sample part clock) ≡ 0
unfolding bare_count held_count converted_count
count_in-Sample manner.Bare x part clock = ap (bare_count x) (sym (rolls-Sample part clock)) ∙ fold-roll-Expr (Unit {0}) ℕ (λ _. tt) (bare_in_level x) (Expr-F.Sample part clock)
count_in-Sample manner.Held x part clock = ap (held_count x) (sym (rolls-Sample part clock)) ∙ fold-roll-Expr (Unit {0}) ℕ (λ _. tt) (held_in_level x) (Expr-F.Sample part clock)
count_in-Sample manner.Converted x part clock = ap (converted_count x) (sym (rolls-Sample part clock)) ∙ fold-roll-Expr (Unit {0}) ℕ (λ _. tt) (converted_in_level x) (Expr-F.Sample part clock)

pub ruleset counts = (count_in-Const, count_in-Read, count_in-Chain, count_in-Relation, count_in-Neg, count_in-Not, count_in-If, count_in-Apply, count_in-Previous, count_in-FirstTick, count_in-IntervalTimes, count_in-Hold, count_in-Convert, count_in-Sample)
