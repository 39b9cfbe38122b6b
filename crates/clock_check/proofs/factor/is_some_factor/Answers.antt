use Rattle.std.proofs.Common.{rules, refl}
use Rattle.clock_terms.specs.Position.{progression_of_grid}
use Rattle.clock_spread.proofs.Limits.{grid_proper}
use Rattle.clock_check.proofs.Factors.{factor_law, no_factor, sub_as_super}
use Rattle.clock_check.proofs.factor.is_some_factor.Goals as goal

pub returns-then-is_multiple-clause-sub : goal.returns-then-is_multiple-clause-sub
returns-then-is_multiple-clause-sub c =
    let law = factor_law c.args.slower c.args.faster (c.if-is_multiple.ensures.0 refl) in
    (λ t. law.0 (c.are_same.ensures.0 t), λ h. c.are_same.ensures.1 (law.1 h))

pub returns-then-is_multiple-clause-super_ : goal.returns-then-is_multiple-clause-super_
returns-then-is_multiple-clause-super_ c =
    let law = factor_law c.args.slower c.args.faster (c.if-is_multiple.ensures.0 refl) in
    let turn = sub_as_super (progression_of_grid c.args.slower) (progression_of_grid c.args.faster) (grid_proper c.args.slower) (grid_proper c.args.faster) in
    (λ t. turn.0 (law.0 (c.are_same.ensures.0 t)), λ h. c.are_same.ensures.1 (law.1 (turn.1 h)))

pub returns-else-is_multiple-clause-sub : goal.returns-else-is_multiple-clause-sub
returns-else-is_multiple-clause-sub c =
    (λ t. absurd cc, λ h. absurd (no_factor c.args.slower c.args.faster (λ m. absurd (search (rules, c.if-is_multiple.ensures.1 m))) h))

pub returns-else-is_multiple-clause-super_ : goal.returns-else-is_multiple-clause-super_
returns-else-is_multiple-clause-super_ c =
    let turn = sub_as_super (progression_of_grid c.args.slower) (progression_of_grid c.args.faster) (grid_proper c.args.slower) (grid_proper c.args.faster) in
    (λ t. absurd cc, λ h. absurd (no_factor c.args.slower c.args.faster (λ m. absurd (search (rules, c.if-is_multiple.ensures.1 m))) (turn.1 h)))
