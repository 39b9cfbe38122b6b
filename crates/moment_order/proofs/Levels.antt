-- The equations of `rests`, one for each kind of expression.
use Rattle.std.proofs.Common.{◌≡◌, ap, ◌∙◌, sym, ℕ, Bool, true, false, ◌||◌, List, Option, map}
use Rattle.std.specs.List.{list_any}
use Rattle.sync_values.specs.declared.value.Value.{Value}
use Rattle.sync_values.specs.declared.value.Rel.{Rel}
use Rattle.sync_values.specs.declared.value.ChainOp.{ChainOp}
use Rattle.flat_model.specs.declared.expression.Fun.{Fun}
use Rattle.flat_model.specs.declared.clock.Conversion.{Conversion}
use Rattle.flat_model.specs.declared.clock.ClockExpr.{ClockExpr}
use Rattle.flat_model.specs.declared.expression.Expr.{Expr}
use Rattle.flat_model.specs.declared.expression.Expr.TheVariants.{Const, Read, Chain, Relation, Neg, Not, If, Apply, Previous, FirstTick, IntervalTimes, Hold, Convert, Sample, rolls-Const, rolls-Read, rolls-Chain, rolls-Relation, rolls-Neg, rolls-Not, rolls-If, rolls-Apply, rolls-Previous, rolls-FirstTick, rolls-IntervalTimes, rolls-Hold, rolls-Convert, rolls-Sample}
use Rattle.flat_model.specs.declared.clock.ClockExpr.TheOpen.{Expr-F}
use Rattle.flat_model.specs.declared.clock.ClockExpr.TheFolds.{fold-roll-Expr}
use Rattle.moment_order.specs.private.Resting.{is_late, rests, rests_in_level}

module _ (late : List Bool) where
  pub rests-Const : (v : Value) → rests late (Const v) ≡ false
  unfolding rests
  rests-Const v = ap (rests late) (sym (rolls-Const v)) ∙ fold-roll-Expr (Unit {0}) Bool (λ _. tt) (rests_in_level late) (Expr-F.Const v)

  pub rests-Read : (x' : ℕ) → rests late (Read x') ≡ is_late late x'
  unfolding rests
  rests-Read x' = ap (rests late) (sym (rolls-Read x')) ∙ fold-roll-Expr (Unit {0}) Bool (λ _. tt) (rests_in_level late) (Expr-F.Read x')

  pub rests-Chain : (parts : List Expr) (ops : List ChainOp) → rests late (Chain parts ops) ≡ list_any (λ part. part) (map (rests late) parts)
  unfolding rests
  rests-Chain parts ops = ap (rests late) (sym (rolls-Chain parts ops)) ∙ fold-roll-Expr (Unit {0}) Bool (λ _. tt) (rests_in_level late) (Expr-F.Chain parts ops)

  pub rests-Relation : (rel : Rel) (left right : Expr) → rests late (Relation rel left right) ≡ (rests late left || rests late right)
  unfolding rests
  rests-Relation rel left right = ap (rests late) (sym (rolls-Relation rel left right)) ∙ fold-roll-Expr (Unit {0}) Bool (λ _. tt) (rests_in_level late) (Expr-F.Relation rel left right)

  pub rests-Neg : (part : Expr) → rests late (Neg part) ≡ rests late part
  unfolding rests
  rests-Neg part = ap (rests late) (sym (rolls-Neg part)) ∙ fold-roll-Expr (Unit {0}) Bool (λ _. tt) (rests_in_level late) (Expr-F.Neg part)

  pub rests-Not : (part : Expr) → rests late (Not part) ≡ rests late part
  unfolding rests
  rests-Not part = ap (rests late) (sym (rolls-Not part)) ∙ fold-roll-Expr (Unit {0}) Bool (λ _. tt) (rests_in_level late) (Expr-F.Not part)

  pub rests-If : (conditions branches : List Expr) (other : Expr) → rests late (If conditions branches other) ≡ (list_any (λ part. part) (map (rests late) conditions) || list_any (λ part. part) (map (rests late) branches) || rests late other)
  unfolding rests
  rests-If conditions branches other = ap (rests late) (sym (rolls-If conditions branches other)) ∙ fold-roll-Expr (Unit {0}) Bool (λ _. tt) (rests_in_level late) (Expr-F.If conditions branches other)

  pub rests-Apply : (function : Fun) (parts : List Expr) → rests late (Apply function parts) ≡ list_any (λ part. part) (map (rests late) parts)
  unfolding rests
  rests-Apply function parts = ap (rests late) (sym (rolls-Apply function parts)) ∙ fold-roll-Expr (Unit {0}) Bool (λ _. tt) (rests_in_level late) (Expr-F.Apply function parts)

  pub rests-Previous : (x' : ℕ) → rests late (Previous x') ≡ false
  unfolding rests
  rests-Previous x' = ap (rests late) (sym (rolls-Previous x')) ∙ fold-roll-Expr (Unit {0}) Bool (λ _. tt) (rests_in_level late) (Expr-F.Previous x')

  pub rests-FirstTick : (x' : Option ℕ) → rests late (FirstTick x') ≡ false
  unfolding rests
  rests-FirstTick x' = ap (rests late) (sym (rolls-FirstTick x')) ∙ fold-roll-Expr (Unit {0}) Bool (λ _. tt) (rests_in_level late) (Expr-F.FirstTick x')

  pub rests-IntervalTimes : (x' : Option ℕ) (k : ℕ) → rests late (IntervalTimes x' k) ≡ false
  unfolding rests
  rests-IntervalTimes x' k = ap (rests late) (sym (rolls-IntervalTimes x' k)) ∙ fold-roll-Expr (Unit {0}) Bool (λ _. tt) (rests_in_level late) (Expr-F.IntervalTimes x' k)

  pub rests-Hold : (x' : ℕ) → rests late (Hold x') ≡ true
  unfolding rests
  rests-Hold x' = ap (rests late) (sym (rolls-Hold x')) ∙ fold-roll-Expr (Unit {0}) Bool (λ _. tt) (rests_in_level late) (Expr-F.Hold x')

  pub rests-Convert : (conversion : Conversion) (x' : ℕ) → rests late (Convert conversion x') ≡ true
  unfolding rests
  rests-Convert conversion x' = ap (rests late) (sym (rolls-Convert conversion x')) ∙ fold-roll-Expr (Unit {0}) Bool (λ _. tt) (rests_in_level late) (Expr-F.«Expr::Convert» conversion x')

  pub rests-Sample : (part : Expr) (clock : Option ClockExpr) → rests late (Sample part clock) ≡ false
  unfolding rests
  rests-Sample part clock = ap (rests late) (sym (rolls-Sample part clock)) ∙ fold-roll-Expr (Unit {0}) Bool (λ _. tt) (rests_in_level late) (Expr-F.Sample part clock)

pub ruleset restings = (rests-Const, rests-Read, rests-Chain, rests-Relation, rests-Neg, rests-Not, rests-If, rests-Apply, rests-Previous, rests-FirstTick, rests-IntervalTimes, rests-Hold, rests-Convert, rests-Sample)
