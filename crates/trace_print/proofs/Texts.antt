-- The equations of `expr_text` and `clock_text`, one for each kind of expression.
use Rattle.std.proofs.Common.{◌≡◌, ap, ◌∙◌, sym, ℕ, List, [], ◌∷◌, ◌++◌, Option, Some, None, map, codes, decimal}
use Rattle.sync_values.specs.declared.value.Value.{Value}
use Rattle.sync_values.specs.declared.value.Rel.{Rel}
use Rattle.sync_values.specs.declared.value.ChainOp.{ChainOp}
use Rattle.flat_model.specs.declared.expression.Fun.{Fun}
use Rattle.flat_model.specs.declared.clock.Conversion.{Conversion}
use Rattle.flat_model.specs.declared.clock.ClockExpr.{ClockExpr}
use Rattle.flat_model.specs.declared.clock.ClockExpr.TheVariants as clock
use Rattle.flat_model.specs.declared.expression.Expr.{Expr}
use Rattle.flat_model.specs.declared.expression.Expr.TheVariants.{Const, Read, Chain, Relation, Neg, Not, If, Apply, Previous, FirstTick, IntervalTimes, Hold, Convert, Sample, rolls-Const, rolls-Read, rolls-Chain, rolls-Relation, rolls-Neg, rolls-Not, rolls-If, rolls-Apply, rolls-Previous, rolls-FirstTick, rolls-IntervalTimes, rolls-Hold, rolls-Convert, rolls-Sample}
use Rattle.flat_model.specs.declared.clock.ClockExpr.TheOpen.{Expr-F, ClockExpr-F}
use Rattle.flat_model.specs.declared.clock.ClockExpr.TheFolds.{fold-roll-Expr, fold-roll-ClockExpr}
use Rattle.flat_model.specs.declared.model.FlatName.{FlatName}
use Rattle.flat_model.specs.Trace.{value_text}
use Rattle.trace_print.specs.Printed.{expr_text, clock_text, expr_level, clock_level, name_text, argument_text, chain_text, rel_text, if_text, call_text, fun_text, interval_text, conversion_text, sample_text}

module _ (names : List FlatName) where
  pub text-Const : (v : Value) → expr_text names (Const v) ≡ value_text v
  unfolding expr_text
  text-Const v = ap (expr_text names) (sym (rolls-Const v)) ∙ fold-roll-Expr (List ℕ) (List ℕ) (clock_level names) (expr_level names) (Expr-F.Const v)

  pub text-Read : (x : ℕ) → expr_text names (Read x) ≡ name_text names x
  unfolding expr_text
  text-Read x = ap (expr_text names) (sym (rolls-Read x)) ∙ fold-roll-Expr (List ℕ) (List ℕ) (clock_level names) (expr_level names) (Expr-F.Read x)

  pub text-Chain : (parts : List Expr) (ops : List ChainOp) → expr_text names (Chain parts ops) ≡ chain_text ops (map (expr_text names) parts)
  unfolding expr_text
  text-Chain parts ops = ap (expr_text names) (sym (rolls-Chain parts ops)) ∙ fold-roll-Expr (List ℕ) (List ℕ) (clock_level names) (expr_level names) (Expr-F.Chain parts ops)

  pub text-Relation : (rel : Rel) (left right : Expr) → expr_text names (Relation rel left right) ≡ codes "(" ++ expr_text names left ++ rel_text rel ++ expr_text names right ++ codes ")"
  unfolding expr_text
  text-Relation rel left right = ap (expr_text names) (sym (rolls-Relation rel left right)) ∙ fold-roll-Expr (List ℕ) (List ℕ) (clock_level names) (expr_level names) (Expr-F.Relation rel left right)

  pub text-Neg : (part : Expr) → expr_text names (Neg part) ≡ codes "(-" ++ expr_text names part ++ codes ")"
  unfolding expr_text
  text-Neg part = ap (expr_text names) (sym (rolls-Neg part)) ∙ fold-roll-Expr (List ℕ) (List ℕ) (clock_level names) (expr_level names) (Expr-F.Neg part)

  pub text-Not : (part : Expr) → expr_text names (Not part) ≡ codes "(not " ++ expr_text names part ++ codes ")"
  unfolding expr_text
  text-Not part = ap (expr_text names) (sym (rolls-Not part)) ∙ fold-roll-Expr (List ℕ) (List ℕ) (clock_level names) (expr_level names) (Expr-F.Not part)

  pub text-If : (conditions branches : List Expr) (other : Expr) → expr_text names (If conditions branches other) ≡ if_text (map (expr_text names) conditions) (map (expr_text names) branches) (expr_text names other)
  unfolding expr_text
  text-If conditions branches other = ap (expr_text names) (sym (rolls-If conditions branches other)) ∙ fold-roll-Expr (List ℕ) (List ℕ) (clock_level names) (expr_level names) (Expr-F.If conditions branches other)

  pub text-Apply : (function : Fun) (parts : List Expr) → expr_text names (Apply function parts) ≡ call_text (fun_text function) (map (expr_text names) parts)
  unfolding expr_text
  text-Apply function parts = ap (expr_text names) (sym (rolls-Apply function parts)) ∙ fold-roll-Expr (List ℕ) (List ℕ) (clock_level names) (expr_level names) (Expr-F.Apply function parts)

  pub text-Previous : (x : ℕ) → expr_text names (Previous x) ≡ call_text (codes "previous") (name_text names x ∷ [])
  unfolding expr_text
  text-Previous x = ap (expr_text names) (sym (rolls-Previous x)) ∙ fold-roll-Expr (List ℕ) (List ℕ) (clock_level names) (expr_level names) (Expr-F.Previous x)

  pub text-FirstTick : (x : Option ℕ) → expr_text names (FirstTick x) ≡ call_text (codes "firstTick") (argument_text names x ∷ [])
  unfolding expr_text
  text-FirstTick x = ap (expr_text names) (sym (rolls-FirstTick x)) ∙ fold-roll-Expr (List ℕ) (List ℕ) (clock_level names) (expr_level names) (Expr-F.FirstTick x)

  pub text-IntervalTimes : (x : Option ℕ) (k : ℕ) → expr_text names (IntervalTimes x k) ≡ interval_text (argument_text names x) k
  unfolding expr_text
  text-IntervalTimes x k = ap (expr_text names) (sym (rolls-IntervalTimes x k)) ∙ fold-roll-Expr (List ℕ) (List ℕ) (clock_level names) (expr_level names) (Expr-F.IntervalTimes x k)

  pub text-Hold : (x : ℕ) → expr_text names (Hold x) ≡ call_text (codes "hold") (name_text names x ∷ [])
  unfolding expr_text
  text-Hold x = ap (expr_text names) (sym (rolls-Hold x)) ∙ fold-roll-Expr (List ℕ) (List ℕ) (clock_level names) (expr_level names) (Expr-F.Hold x)

  pub text-Convert : (by : Conversion) (x : ℕ) → expr_text names (Convert by x) ≡ conversion_text by (name_text names x)
  unfolding expr_text
  text-Convert by x = ap (expr_text names) (sym (rolls-Convert by x)) ∙ fold-roll-Expr (List ℕ) (List ℕ) (clock_level names) (expr_level names) (Expr-F.«Expr::Convert» by x)

  pub text-Sample : (part : Expr) → expr_text names (Sample part None) ≡ sample_text (expr_text names part) None
  unfolding expr_text
  text-Sample part = ap (expr_text names) (sym (rolls-Sample part None)) ∙ fold-roll-Expr (List ℕ) (List ℕ) (clock_level names) (expr_level names) (Expr-F.Sample part None)

  pub text-Sample_on : (part : Expr) (c : ClockExpr) → expr_text names (Sample part (Some c)) ≡ sample_text (expr_text names part) (Some (clock_text names c))
  unfolding expr_text clock_text
  text-Sample_on part c = ap (expr_text names) (sym (rolls-Sample part (Some c))) ∙ fold-roll-Expr (List ℕ) (List ℕ) (clock_level names) (expr_level names) (Expr-F.Sample part (Some c))

  pub clock-Name : (x : ℕ) → clock_text names (clock.Name x) ≡ name_text names x
  unfolding clock_text
  clock-Name x = ap (clock_text names) (sym (clock.rolls-Name x)) ∙ fold-roll-ClockExpr (List ℕ) (List ℕ) (clock_level names) (expr_level names) (ClockExpr-F.Name x)

  pub clock-Inferred : clock_text names clock.Inferred ≡ codes "Clock()"
  unfolding clock_text
  clock-Inferred = ap (clock_text names) (sym clock.rolls-Inferred) ∙ fold-roll-ClockExpr (List ℕ) (List ℕ) (clock_level names) (expr_level names) ClockExpr-F.Inferred

  pub clock-Rational : (counter resolution : ℕ) → clock_text names (clock.Rational counter resolution) ≡ call_text (codes "Clock") (decimal counter ∷ decimal resolution ∷ [])
  unfolding clock_text
  clock-Rational counter resolution = ap (clock_text names) (sym (clock.rolls-Rational counter resolution)) ∙ fold-roll-ClockExpr (List ℕ) (List ℕ) (clock_level names) (expr_level names) (ClockExpr-F.Rational counter resolution)

  pub clock-Event : (condition : Expr) → clock_text names (clock.Event condition) ≡ call_text (codes "Clock") (expr_text names condition ∷ [])
  unfolding expr_text clock_text
  clock-Event condition = ap (clock_text names) (sym (clock.rolls-Event condition)) ∙ fold-roll-ClockExpr (List ℕ) (List ℕ) (clock_level names) (expr_level names) (ClockExpr-F.Event condition)

  pub clock-Convert : (by : Conversion) (x : ℕ) → clock_text names (clock.Convert by x) ≡ conversion_text by (name_text names x)
  unfolding clock_text
  clock-Convert by x = ap (clock_text names) (sym (clock.rolls-Convert by x)) ∙ fold-roll-ClockExpr (List ℕ) (List ℕ) (clock_level names) (expr_level names) (ClockExpr-F.«ClockExpr::Convert» by x)

-- these, for the tactics
pub ruleset texts = (text-Const, text-Read, text-Chain, text-Relation, text-Neg, text-Not, text-If, text-Apply, text-Previous, text-FirstTick, text-IntervalTimes, text-Hold, text-Convert, text-Sample, text-Sample_on)

pub ruleset clocks = (clock-Name, clock-Inferred, clock-Rational, clock-Event, clock-Convert)
