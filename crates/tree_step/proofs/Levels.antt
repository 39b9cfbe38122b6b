-- The equations of `lacks`, one for each kind of expression.
use Rattle.std.proofs.Common.{◌≡◌, ap, ◌∙◌, sym, ℕ, Bool, false, ◌||◌, List, Option, map}
use Rattle.std.specs.List.{list_any}
use Rattle.sync_values.specs.declared.value.Value.{Value}
use Rattle.sync_values.specs.declared.value.Rel.{Rel}
use Rattle.sync_values.specs.declared.value.ChainOp.{ChainOp}
use Rattle.flat_model.specs.declared.expression.Fun.{Fun}
use Rattle.flat_model.specs.declared.clock.Conversion.{Conversion}
use Rattle.flat_model.specs.declared.clock.ClockExpr.{ClockExpr}
use Rattle.flat_model.specs.declared.expression.Expr.{Expr}
use Rattle.flat_model.specs.declared.expression.Expr.TheVariants.{Const, Read, Chain, Relation, Neg, Not, If, Apply, Previous, FirstTick, IntervalTimes, Hold, Convert, Sample, rolls-Const, rolls-Read, rolls-Chain, rolls-Relation, rolls-Neg, rolls-Not, rolls-If, rolls-Apply, rolls-Previous, rolls-FirstTick, rolls-IntervalTimes, rolls-Hold, rolls-Convert, rolls-Sample}
use Rattle.flat_model.specs.declared.clock.ClockExpr.TheOpen.{Expr-F}
use Rattle.flat_model.specs.declared.clock.ClockExpr.TheFolds.{fold-roll-Expr}
use Rattle.tree_step.specs.private.Lacking.{lacks, lacks_in_level}

module _ (bare last : ℕ → Bool) where
  pub lacks-Const : (v : Value) → lacks bare last (Const v) ≡ false
  unfolding lacks
  lacks-Const v = ap (lacks bare last) (sym (rolls-Const v)) ∙ fold-roll-Expr (Unit {0}) Bool (λ _. tt) (lacks_in_level bare last) (Expr-F.Const v)

  pub lacks-Read : (x' : ℕ) → lacks bare last (Read x') ≡ bare x'
  unfolding lacks
  lacks-Read x' = ap (lacks bare last) (sym (rolls-Read x')) ∙ fold-roll-Expr (Unit {0}) Bool (λ _. tt) (lacks_in_level bare last) (Expr-F.Read x')

  pub lacks-Chain : (parts : List Expr) (ops : List ChainOp) → lacks bare last (Chain parts ops) ≡ list_any (λ part. part) (map (lacks bare last) parts)
  unfolding lacks
  lacks-Chain parts ops = ap (lacks bare last) (sym (rolls-Chain parts ops)) ∙ fold-roll-Expr (Unit {0}) Bool (λ _. tt) (lacks_in_level bare last) (Expr-F.Chain parts ops)

  pub lacks-Relation : (rel : Rel) (left right : Expr) → lacks bare last (Relation rel left right) ≡ (lacks bare last left || lacks bare last right)
  unfolding lacks
  lacks-Relation rel left right = ap (lacks bare last) (sym (rolls-Relation rel left right)) ∙ fold-roll-Expr (Unit {0}) Bool (λ _. tt) (lacks_in_level bare last) (Expr-F.Relation rel left right)

  pub lacks-Neg : (part : Expr) → lacks bare last (Neg part) ≡ lacks bare last part
  unfolding lacks
  lacks-Neg part = ap (lacks bare last) (sym (rolls-Neg part)) ∙ fold-roll-Expr (Unit {0}) Bool (λ _. tt) (lacks_in_level bare last) (Expr-F.Neg part)

  pub lacks-Not : (part : Expr) → lacks bare last (Not part) ≡ lacks bare last part
  unfolding lacks
  lacks-Not part = ap (lacks bare last) (sym (rolls-Not part)) ∙ fold-roll-Expr (Unit {0}) Bool (λ _. tt) (lacks_in_level bare last) (Expr-F.Not part)

  pub lacks-If : (conditions branches : List Expr) (other : Expr) → lacks bare last (If conditions branches other) ≡ (list_any (λ part. part) (map (lacks bare last) conditions) || list_any (λ part. part) (map (lacks bare last) branches) || lacks bare last other)
  unfolding lacks
  lacks-If conditions branches other = ap (lacks bare last) (sym (rolls-If conditions branches other)) ∙ fold-roll-Expr (Unit {0}) Bool (λ _. tt) (lacks_in_level bare last) (Expr-F.If conditions branches other)

  pub lacks-Apply : (function : Fun) (parts : List Expr) → lacks bare last (Apply function parts) ≡ list_any (λ part. part) (map (lacks bare last) parts)
  unfolding lacks
  lacks-Apply function parts = ap (lacks bare last) (sym (rolls-Apply function parts)) ∙ fold-roll-Expr (Unit {0}) Bool (λ _. tt) (lacks_in_level bare last) (Expr-F.Apply function parts)

  pub lacks-Previous : (x' : ℕ) → lacks bare last (Previous x') ≡ false
  unfolding lacks
  lacks-Previous x' = ap (lacks bare last) (sym (rolls-Previous x')) ∙ fold-roll-Expr (Unit {0}) Bool (λ _. tt) (lacks_in_level bare last) (Expr-F.Previous x')

  pub lacks-FirstTick : (x' : Option ℕ) → lacks bare last (FirstTick x') ≡ false
  unfolding lacks
  lacks-FirstTick x' = ap (lacks bare last) (sym (rolls-FirstTick x')) ∙ fold-roll-Expr (Unit {0}) Bool (λ _. tt) (lacks_in_level bare last) (Expr-F.FirstTick x')

  pub lacks-IntervalTimes : (x' : Option ℕ) (k : ℕ) → lacks bare last (IntervalTimes x' k) ≡ false
  unfolding lacks
  lacks-IntervalTimes x' k = ap (lacks bare last) (sym (rolls-IntervalTimes x' k)) ∙ fold-roll-Expr (Unit {0}) Bool (λ _. tt) (lacks_in_level bare last) (Expr-F.IntervalTimes x' k)

  pub lacks-Hold : (x' : ℕ) → lacks bare last (Hold x') ≡ last x'
  unfolding lacks
  lacks-Hold x' = ap (lacks bare last) (sym (rolls-Hold x')) ∙ fold-roll-Expr (Unit {0}) Bool (λ _. tt) (lacks_in_level bare last) (Expr-F.Hold x')

  pub lacks-Convert : (conversion : Conversion) (x' : ℕ) → lacks bare last (Convert conversion x') ≡ last x'
  unfolding lacks
  lacks-Convert conversion x' = ap (lacks bare last) (sym (rolls-Convert conversion x')) ∙ fold-roll-Expr (Unit {0}) Bool (λ _. tt) (lacks_in_level bare last) (Expr-F.«Expr::Convert» conversion x')

  pub lacks-Sample : (part : Expr) (clock : Option ClockExpr) → lacks bare last (Sample part clock) ≡ false
  unfolding lacks
  lacks-Sample part clock = ap (lacks bare last) (sym (rolls-Sample part clock)) ∙ fold-roll-Expr (Unit {0}) Bool (λ _. tt) (lacks_in_level bare last) (Expr-F.Sample part clock)

pub ruleset lackings = (lacks-Const, lacks-Read, lacks-Chain, lacks-Relation, lacks-Neg, lacks-Not, lacks-If, lacks-Apply, lacks-Previous, lacks-FirstTick, lacks-IntervalTimes, lacks-Hold, lacks-Convert, lacks-Sample)
