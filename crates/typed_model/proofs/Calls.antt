-- The calls of operators, of `sample` and of `Clock` give good nodes of good parts.
use Rattle.std.proofs.Common.{◌≡◌, refl, subst, List, [], ◌∷◌, Option, Some, None, option_map}
use Rattle.flat_model.specs.declared.model.FlatName.{FlatName}
use Rattle.flat_model.specs.declared.model.NameKind.{NameKind}
use Rattle.flat_model.specs.declared.model.NameKind.TheVariants as kind
use Rattle.flat_model.specs.declared.expression.Expr.{Expr}
use Rattle.flat_model.specs.declared.clock.Conversion.TheVariants as by
use Rattle.flat_model.specs.declared.clock.ClockExpr.{ClockExpr}
use Rattle.flat_types.specs.declared.callee.Callee.{Callee}
use Rattle.flat_types.specs.declared.callee.Callee.TheVariants as to
use Rattle.flat_types.specs.declared.callee.Operator as op
use Rattle.flat_types.specs.declared.callee.Operator.TheVariants as operator
use Rattle.flat_types.specs.declared.ends.TypeCode.{TypeCode}
use Rattle.flat_types.specs.declared.ends.TypeCode.TheVariants.{Y4}
use Rattle.flat_types.specs.declared.outcome.Outcome.{Outcome}
use Rattle.flat_types.specs.Outcomes.{counter, as_value, as_clock, clock_of, clocked, clock_by, sampled, both}
use Rattle.flat_types.specs.Readings.{operator_found, sample_found, clock_found, interval_alone, call_found}
use Rattle.typed_model.proofs.Values.{good-FirstTick, good-Sample}
use Rattle.typed_model.proofs.Good.{IsGoodClock}
use Rattle.typed_model.proofs.Clocks.{good-Inferred, good-Event}
use Rattle.typed_model.proofs.NodeParts.{Each, IsGood, IsGoodTyped, IsGoodTick, value_good, clock_good}
use Rattle.typed_model.proofs.Forms.{arithmetic_good}
use Rattle.typed_model.proofs.Counted.{counter_range, sub_range, super_range, shift_range, back_range, shift_both_range, back_both_range, clock_one_good, clock_both_good}
use Rattle.typed_model.proofs.Named.{previous_good, hold_good, no_clock_good, first_tick_good, converted_good}

module _ (names : List FlatName) where
  operator_good : (called : op.Operator) (parts : List Outcome) → IsGood names (operator_found names called parts)
  operator_good operator.Previous [] = tt
  operator_good operator.Previous (u ∷ []) = previous_good names u
  operator_good operator.Previous (u ∷ (k ∷ parts)) = tt
  operator_good operator.Hold [] = tt
  operator_good operator.Hold (u ∷ []) = hold_good names u
  operator_good operator.Hold (u ∷ (k ∷ parts)) = tt
  operator_good operator.NoClock [] = tt
  operator_good operator.NoClock (u ∷ []) = no_clock_good names u
  operator_good operator.NoClock (u ∷ (k ∷ parts)) = tt
  operator_good operator.FirstTick [] = good-FirstTick names None refl
  operator_good operator.FirstTick (u ∷ []) = first_tick_good names u
  operator_good operator.FirstTick (u ∷ (k ∷ parts)) = tt
  operator_good operator.SubSample [] = tt
  operator_good operator.SubSample (u ∷ []) = converted_good names u (Some (by.Sub 0)) refl
  operator_good operator.SubSample (u ∷ (f ∷ [])) = converted_good names u (option_map (λ n. by.Sub n) (counter 0 f)) (sub_range (counter 0 f) (counter_range 0 f))
  operator_good operator.SubSample (u ∷ (f ∷ (g ∷ parts))) = tt
  operator_good operator.SuperSample [] = tt
  operator_good operator.SuperSample (u ∷ []) = converted_good names u (Some (by.Super 0)) refl
  operator_good operator.SuperSample (u ∷ (f ∷ [])) = converted_good names u (option_map (λ n. by.Super n) (counter 0 f)) (super_range (counter 0 f) (counter_range 0 f))
  operator_good operator.SuperSample (u ∷ (f ∷ (g ∷ parts))) = tt
  operator_good operator.ShiftSample [] = tt
  operator_good operator.ShiftSample (u ∷ []) = tt
  operator_good operator.ShiftSample (u ∷ (k ∷ [])) = converted_good names u (option_map (λ n. by.Shift n 1) (counter 0 k)) (shift_range (counter 0 k) (counter_range 0 k))
  operator_good operator.ShiftSample (u ∷ (k ∷ (r ∷ []))) =
      converted_good names u (both (λ m n. by.Shift m n) (counter 0 k) (counter 1 r)) (shift_both_range (counter 0 k) (counter 1 r) (counter_range 0 k) (counter_range 1 r))
  operator_good operator.ShiftSample (u ∷ (k ∷ (r ∷ (s ∷ parts)))) = tt
  operator_good operator.BackSample [] = tt
  operator_good operator.BackSample (u ∷ []) = tt
  operator_good operator.BackSample (u ∷ (k ∷ [])) = converted_good names u (option_map (λ n. by.Back n 1) (counter 0 k)) (back_range (counter 0 k) (counter_range 0 k))
  operator_good operator.BackSample (u ∷ (k ∷ (r ∷ []))) =
      converted_good names u (both (λ m n. by.Back m n) (counter 0 k) (counter 1 r)) (back_both_range (counter 0 k) (counter 1 r) (counter_range 0 k) (counter_range 1 r))
  operator_good operator.BackSample (u ∷ (k ∷ (r ∷ (s ∷ parts)))) = tt

  sampled_good : (o : Option (Expr × NameKind)) (clock : Option ClockExpr) → IsGoodTyped names o → IsGoodTick names clock → IsGood names (sampled o (option_map (λ it. Some it) clock))
  sampled_good None clock one two = tt
  sampled_good (Some x) None one two = tt
  sampled_good (Some x) (Some k) one two = good-Sample names x.0 (Some k) x.1 one (λ l is. let same : k ≡ l = cc in subst (λ it. IsGoodClock names it) same two)

  sampled_alone_good : (o : Option (Expr × NameKind)) → IsGoodTyped names o → IsGood names (sampled o (Some None))
  sampled_alone_good None one = tt
  sampled_alone_good (Some x) one = good-Sample names x.0 None x.1 one (λ l is. absurd cc)

  sample_good : (parts : List Outcome) → Each (IsGood names) parts → IsGood names (sample_found names parts)
  sample_good [] good = tt
  sample_good (part ∷ []) good = sampled_alone_good (as_value names part) (value_good names part good.0)
  sample_good (part ∷ (clock ∷ [])) good = sampled_good (as_value names part) (as_clock names clock) (value_good names part good.0) (clock_good names clock good.1.0)
  sample_good (part ∷ (clock ∷ (next ∷ parts))) good = tt

  clocked_good : (o : Option ClockExpr) (code : TypeCode) → IsGoodTick names o → IsGood names (clocked o code)
  clocked_good None code good = tt
  clocked_good (Some clock) code good = good

  clock_by_good : (part : Outcome) (o : Option (Expr × NameKind)) → IsGoodTyped names o → IsGood names (clock_by part o)
  clock_by_good part None good = clocked_good (option_map (λ n. clock_of n 1) (counter 0 part)) Y4 (clock_one_good names (counter 0 part) (counter_range 0 part))
  clock_by_good part (Some (expr, kind.Integer)) good = clocked_good (option_map (λ n. clock_of n 1) (counter 0 part)) Y4 (clock_one_good names (counter 0 part) (counter_range 0 part))
  clock_by_good part (Some (expr, kind.Boolean)) good = good-Event names expr good
  clock_by_good part (Some (expr, kind.Clock)) good = clocked_good (option_map (λ n. clock_of n 1) (counter 0 part)) Y4 (clock_one_good names (counter 0 part) (counter_range 0 part))

  clock_call_good : (parts : List Outcome) → Each (IsGood names) parts → IsGood names (clock_found names parts)
  clock_call_good [] good = good-Inferred names
  clock_call_good (part ∷ []) good = clock_by_good part (as_value names part) (value_good names part good.0)
  clock_call_good (n ∷ (r ∷ [])) good = clocked_good (both clock_of (counter 0 n) (counter 1 r)) Y4 (clock_both_good names (counter 0 n) (counter 1 r) (counter_range 0 n) (counter_range 1 r))
  clock_call_good (n ∷ (r ∷ (s ∷ parts))) good = tt

  interval_call_good : (parts : List Outcome) → IsGood names (interval_alone parts)
  interval_call_good [] = tt
  interval_call_good (part ∷ []) = tt
  interval_call_good (part ∷ (next ∷ parts)) = tt

  pub call_good : (called : Callee) (parts : List Outcome) → Each (IsGood names) parts → IsGood names (call_found names called parts)
  call_good (to.Arithmetic function) parts good = arithmetic_good names function parts good
  call_good (to.Operator called) parts good = operator_good called parts
  call_good to.Sample parts good = sample_good parts good
  call_good to.Clock parts good = clock_call_good parts good
  call_good to.Interval parts good = interval_call_good parts
  call_good to.LeftOut parts good = tt
  call_good to.Integer parts good = tt
  call_good to.Unknown parts good = tt
