-- The equations of `lacks`, one for each kind of expression.
use Rattle.std.proofs.Common.{◌≡◌, ap, ◌∙◌, sym, ℕ, Bool, true, false, ◌||◌, List, Option, map}
use Rattle.std.specs.List.{list_any}
use Rattle.sync_values.specs.declared.value.Value.{Value}
use Rattle.sync_values.specs.declared.value.Rel.{Rel}
use Rattle.sync_values.specs.declared.value.ChainOp.{ChainOp}
use Rattle.flat_model.specs.declared.expression.Fun.{Fun}
use Rattle.flat_model.specs.declared.clock.Conversion.{Conversion}
use Rattle.flat_model.specs.declared.clock.ClockExpr.{ClockExpr}
use Rattle.flat_model.specs.declared.expression.Expr.{Expr}
use Rattle.flat_model.specs.declared.expression.Expr.TheVariants.{Const, Read, Chain, Relation, Neg, Not, If, Apply, Previous, FirstTick, IntervalTimes, Hold, Convert, Sample, rolls-Const, rolls-Read, rolls-Chain, rolls-Relation, rolls-Neg, rolls-Not, rolls-If, rolls-Apply, rolls-Previous, rolls-FirstTick, rolls-IntervalTimes, rolls-Hold, rolls-Convert, rolls-Sample}
use Rattle.flat_model.specs.declared.clock.ClockExpr.TheOpen.{Expr-F}
use Rattle.flat_model.specs.declared.clock.ClockExpr.TheFolds.{fold-roll-Expr}
use Rattle.site_risings.specs.private.Lacking.{is_missing, lacks, lacks_in_level}

module _ (now : List (Option Value)) where
  pub lacks-Const : (v : Value) → lacks now (Const v) ≡ false
  unfolding lacks
  lacks-Const v = ap (lacks now) (sym (rolls-Const v)) ∙ fold-roll-Expr (Unit {0}) Bool (λ _. tt) (lacks_in_level now) (Expr-F.Const v)

  pub lacks-Read : (x' : ℕ) → lacks now (Read x') ≡ is_missing now x'
  unfolding lacks
  lacks-Read x' = ap (lacks now) (sym (rolls-Read x')) ∙ fold-roll-Expr (Unit {0}) Bool (λ _. tt) (lacks_in_level now) (Expr-F.Read x')

  pub lacks-Chain : (parts : List Expr) (ops : List ChainOp) → lacks now (Chain parts ops) ≡ list_any (λ part. part) (map (lacks now) parts)
  unfolding lacks
  lacks-Chain parts ops = ap (lacks now) (sym (rolls-Chain parts ops)) ∙ fold-roll-Expr (Unit {0}) Bool (λ _. tt) (lacks_in_level now) (Expr-F.Chain parts ops)

  pub lacks-Relation : (rel : Rel) (left right : Expr) → lacks now (Relation rel left right) ≡ (lacks now left || lacks now right)
  unfolding lacks
  lacks-Relation rel left right = ap (lacks now) (sym (rolls-Relation rel left right)) ∙ fold-roll-Expr (Unit {0}) Bool (λ _. tt) (lacks_in_level now) (Expr-F.Relation rel left right)

  pub lacks-Neg : (part : Expr) → lacks now (Neg part) ≡ lacks now part
  unfolding lacks
  lacks-Neg part = ap (lacks now) (sym (rolls-Neg part)) ∙ fold-roll-Expr (Unit {0}) Bool (λ _. tt) (lacks_in_level now) (Expr-F.Neg part)

  pub lacks-Not : (part : Expr) → lacks now (Not part) ≡ lacks now part
  unfolding lacks
  lacks-Not part = ap (lacks now) (sym (rolls-Not part)) ∙ fold-roll-Expr (Unit {0}) Bool (λ _. tt) (lacks_in_level now) (Expr-F.Not part)

  pub lacks-If : (conditions branches : List Expr) (other : Expr) → lacks now (If conditions branches other) ≡ (list_any (λ part. part) (map (lacks now) conditions) || list_any (λ part. part) (map (lacks now) branches) || lacks now other)
  unfolding lacks
  lacks-If conditions branches other = ap (lacks now) (sym (rolls-If conditions branches other)) ∙ fold-roll-Expr (Unit {0}) Bool (λ _. tt) (lacks_in_level now) (Expr-F.If conditions branches other)

  pub lacks-Apply : (function : Fun) (parts : List Expr) → lacks now (Apply function parts) ≡ list_any (λ part. part) (map (lacks now) parts)
  unfolding lacks
  lacks-Apply function parts = ap (lacks now) (sym (rolls-Apply function parts)) ∙ fold-roll-Expr (Unit {0}) Bool (λ _. tt) (lacks_in_level now) (Expr-F.Apply function parts)

  pub lacks-Previous : (x' : ℕ) → lacks now (Previous x') ≡ false
  unfolding lacks
  lacks-Previous x' = ap (lacks now) (sym (rolls-Previous x')) ∙ fold-roll-Expr (Unit {0}) Bool (λ _. tt) (lacks_in_level now) (Expr-F.Previous x')

  pub lacks-FirstTick : (x' : Option ℕ) → lacks now (FirstTick x') ≡ false
  unfolding lacks
  lacks-FirstTick x' = ap (lacks now) (sym (rolls-FirstTick x')) ∙ fold-roll-Expr (Unit {0}) Bool (λ _. tt) (lacks_in_level now) (Expr-F.FirstTick x')

  pub lacks-IntervalTimes : (x' : Option ℕ) (k : ℕ) → lacks now (IntervalTimes x' k) ≡ false
  unfolding lacks
  lacks-IntervalTimes x' k = ap (lacks now) (sym (rolls-IntervalTimes x' k)) ∙ fold-roll-Expr (Unit {0}) Bool (λ _. tt) (lacks_in_level now) (Expr-F.IntervalTimes x' k)

  pub lacks-Hold : (x' : ℕ) → lacks now (Hold x') ≡ false
  unfolding lacks
  lacks-Hold x' = ap (lacks now) (sym (rolls-Hold x')) ∙ fold-roll-Expr (Unit {0}) Bool (λ _. tt) (lacks_in_level now) (Expr-F.Hold x')

  pub lacks-Convert : (conversion : Conversion) (x' : ℕ) → lacks now (Convert conversion x') ≡ false
  unfolding lacks
  lacks-Convert conversion x' = ap (lacks now) (sym (rolls-Convert conversion x')) ∙ fold-roll-Expr (Unit {0}) Bool (λ _. tt) (lacks_in_level now) (Expr-F.«Expr::Convert» conversion x')

  pub lacks-Sample : (part : Expr) (clock : Option ClockExpr) → lacks now (Sample part clock) ≡ false
  unfolding lacks
  lacks-Sample part clock = ap (lacks now) (sym (rolls-Sample part clock)) ∙ fold-roll-Expr (Unit {0}) Bool (λ _. tt) (lacks_in_level now) (Expr-F.Sample part clock)

pub ruleset lackings = (lacks-Const, lacks-Read, lacks-Chain, lacks-Relation, lacks-Neg, lacks-Not, lacks-If, lacks-Apply, lacks-Previous, lacks-FirstTick, lacks-IntervalTimes, lacks-Hold, lacks-Convert, lacks-Sample)
