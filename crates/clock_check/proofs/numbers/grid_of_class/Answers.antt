use Rattle.std.proofs.Common.{◌∙◌, sym, None, Some}
use Rattle.clock_check.proofs.Counting.{grid_of_number, some_contains}
use Rattle.clock_check.proofs.numbers.grid_of_class.Goals as goal

pub returns-in-Some-clause-grid : goal.returns-in-Some-clause-grid
returns-in-Some-clause-grid c = λ clocked are.
    c.grid_at_number.ensures ∙ sym (grid_of_number clocked c.args.numbers.now c.args.grids.now c.args.class (Some c.in-Some.number) are (sym c.number_of_class.ensures ∙ c.in-Some.is))

pub returns-in-Some-clause-within : goal.returns-in-Some-clause-within
returns-in-Some-clause-within c = some_contains c.args.grids.now c.in-Some.number c.grid_at_number.result c.grid_at_number.ensures

pub returns-in-None-clause-grid : goal.returns-in-None-clause-grid
returns-in-None-clause-grid c = λ clocked are. sym (grid_of_number clocked c.args.numbers.now c.args.grids.now c.args.class None are (sym c.number_of_class.ensures ∙ c.in-None.is))
