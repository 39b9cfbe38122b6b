use Rattle.std.proofs.Common.{rules, arith, ◌≡◌, ◌^◌, sym, ap, subst, length, All}
use Rattle.clock_terms.specs.Position.{IsFine}
use Rattle.clock_spread.specs.Least.{IsLeastOf}
use Rattle.clock_check.specs.private.Numbering.{AreNumbers}
use Rattle.clock_check.specs.private.Holding.{IsInClass}
use Rattle.clock_check.specs.private.Made.{IsMade}
use Rattle.clock_check.specs.Checking.{BreaksRule, AreFactorsWhole, HoldsInCondition}
use Rattle.clock_check.proofs.Whole.{is_clocking_of, grids_fine}
use Rattle.clock_check.proofs.Answering.{breaks_checks, held_at}
use Rattle.clock_check.proofs.Conditions.{holds_below, node_count}
use Rattle.clock_check.proofs.checking.check.Goals as goal

pub broken_rule-requires-clause-fine : goal.broken_rule-requires-clause-fine
broken_rule-requires-clause-fine c =
    subst (λ l. All (IsFine (2 ^ 40)) l) (sym c.as_slice-2.ensures) (grids_fine c.args.terms.now c.args.classes.now c.args.grids.now c.requires.grids)

pub returns-in-Some : goal.returns-in-Some
returns-in-Some c =
    breaks_checks c.args.flat.now c.args.terms.now c.args.classes.now c.args.grids.now c.in-Some.end
    (subst (λ l. BreaksRule c.args.terms.now c.args.classes.now l c.in-Some.end) c.as_slice-2.ensures (c.in-Some.ensures {u = tt}))

pub held_condition-requires-clause-holds : goal.held_condition-requires-clause-holds
held_condition-requires-clause-holds c =
    let count : length c.args.classes.now.clocked ≡ c.len-2.result = search rules in
    subst (λ l. All (IsInClass c.as_slice-3.result.now c.len-2.result) l) (sym c.as_slice-4.ensures)
    (subst (λ l. All (IsInClass l c.len-2.result) c.args.terms.now.holds) (sym c.as_slice-3.ensures)
    (subst (λ n. All (IsInClass c.args.classes.now.class_of n) c.args.terms.now.holds) count
    (holds_below c.args.flat.now c.args.terms.now c.args.classes.now c.requires.terms c.requires.classes)))

pub held_condition-requires-clause-nodes : goal.held_condition-requires-clause-nodes
held_condition-requires-clause-nodes c =
    let all = node_count c.args.flat.now c.args.terms.now c.args.classes.now c.requires.terms c.requires.classes in
    let nodes = ap length c.as_slice-5.ensures in
    let class_of = ap length c.as_slice-3.ensures in
    let names = c.len-3.ensures in
    omega (arith, all, nodes, class_of, names)

pub returns-in-Some-held : goal.returns-in-Some-held
returns-in-Some-held c =
    let factors : AreFactorsWhole c.args.terms.now c.args.classes.now c.args.grids.now = subst (λ l. AreFactorsWhole c.args.terms.now c.args.classes.now l) c.as_slice-2.ensures (c.in_default-broken_rule.ensures {u = tt}) in
    let least = held_at c.args.flat.now c.args.terms.now c.args.classes.now c.as_slice-3.result.now c.as_slice-4.result.now c.as_slice-5.result.now c.len-3.result c.in_ok-held.held c.requires.terms
    c.as_slice-3.ensures c.as_slice-4.ensures c.as_slice-5.ensures c.len-3.ensures (c.in_ok-held.ensures {u = tt}) in
    (factors, subst (λ o. IsLeastOf (HoldsInCondition c.args.flat.now c.args.classes.now) o) c.in-Some-held.is least)

pub returns : goal.returns
returns c =
    let factors : AreFactorsWhole c.args.terms.now c.args.classes.now c.args.grids.now = subst (λ l. AreFactorsWhole c.args.terms.now c.args.classes.now l) c.as_slice-2.ensures (c.in_default-broken_rule.ensures {u = tt}) in
    let least = held_at c.args.flat.now c.args.terms.now c.args.classes.now c.as_slice-3.result.now c.as_slice-4.result.now c.as_slice-5.result.now c.len-3.result c.in_ok-held.held c.requires.terms
    c.as_slice-3.ensures c.as_slice-4.ensures c.as_slice-5.ensures c.len-3.ensures (c.in_ok-held.ensures {u = tt}) in
    let nowhere = subst (λ o. IsLeastOf (HoldsInCondition c.args.flat.now c.args.classes.now) o) c.in_default-held.is least in
    let numbers : AreNumbers c.args.classes.now.clocked c.in_ok-numbers.numbers.items = search rules in
    let made : IsMade c.args.flat.now c.args.terms.now c.args.classes.now c.args.grids.now c.in_ok-numbers.numbers.items c.in_ok-made.field-0 = search rules in (
      (factors, nowhere),
      is_clocking_of c.args.flat.now c.args.terms.now c.args.classes.now c.args.grids.now c.in_ok-numbers.numbers.items c.in_ok-made.field-0
          c.requires.terms c.requires.classes c.requires.fit c.requires.grids c.requires.factors numbers made factors,
    )
