use Rattle.std.proofs.Common.{rules, ◌^◌}
use Rattle.clock_terms.specs.Position.{progression_of_grid, AreSame, IsFine}
use Rattle.clock_terms.specs.Asked.{converted}
use Rattle.clock_terms.proofs.Conversions.{converted_proper}
use Rattle.clock_spread.proofs.Limits.{fine_not_too_fine, grid_proper}
use Rattle.clock_spread.proofs.onward.convert.Goals as goal

pub returns-in_ok-part_of-in-Sub-clause-none : goal.returns-in_ok-part_of-in-Sub-clause-none
returns-in_ok-part_of-in-Sub-clause-none c =
    let same : AreSame (progression_of_grid c.with_period.result) (converted c.args.by (progression_of_grid c.args.grid)) = search rules in
    let fine : IsFine (2 ^ 40) c.with_period.result = search rules in
    (λ e. absurd cc, λ h. absurd (fine_not_too_fine c.with_period.result (converted c.args.by (progression_of_grid c.args.grid)) (converted_proper c.args.by (progression_of_grid c.args.grid) c.requires.given (grid_proper c.args.grid)) same fine h))

pub returns-in_ok-part_of-in-Super-clause-none : goal.returns-in_ok-part_of-in-Super-clause-none
returns-in_ok-part_of-in-Super-clause-none c =
    let same : AreSame (progression_of_grid c.with_period-in-Super.result) (converted c.args.by (progression_of_grid c.args.grid)) = search rules in
    let fine : IsFine (2 ^ 40) c.with_period-in-Super.result = search rules in
    (λ e. absurd cc, λ h. absurd (fine_not_too_fine c.with_period-in-Super.result (converted c.args.by (progression_of_grid c.args.grid)) (converted_proper c.args.by (progression_of_grid c.args.grid) c.requires.given (grid_proper c.args.grid)) same fine h))

pub returns-in_ok-start_by-in-Shift-clause-none : goal.returns-in_ok-start_by-in-Shift-clause-none
returns-in_ok-start_by-in-Shift-clause-none c =
    let same : AreSame (progression_of_grid c.with_start.result) (converted c.args.by (progression_of_grid c.args.grid)) = search rules in
    let fine : IsFine (2 ^ 40) c.with_start.result = search rules in
    (λ e. absurd cc, λ h. absurd (fine_not_too_fine c.with_start.result (converted c.args.by (progression_of_grid c.args.grid)) (converted_proper c.args.by (progression_of_grid c.args.grid) c.requires.given (grid_proper c.args.grid)) same fine h))

pub returns-in_ok-start_by-in-Back-clause-none : goal.returns-in_ok-start_by-in-Back-clause-none
returns-in_ok-start_by-in-Back-clause-none c =
    let same : AreSame (progression_of_grid c.with_start-in-Back.result) (converted c.args.by (progression_of_grid c.args.grid)) = search rules in
    let fine : IsFine (2 ^ 40) c.with_start-in-Back.result = search rules in
    (λ e. absurd cc, λ h. absurd (fine_not_too_fine c.with_start-in-Back.result (converted c.args.by (progression_of_grid c.args.grid)) (converted_proper c.args.by (progression_of_grid c.args.grid) c.requires.given (grid_proper c.args.grid)) same fine h))
