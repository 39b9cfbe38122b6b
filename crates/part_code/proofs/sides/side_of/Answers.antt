use Rattle.part_code.proofs.Solved.{side_found}
use Rattle.part_code.proofs.sides.side_of.Goals as goal

pub returns-in-Some-clause-side : goal.returns-in-Some-clause-side
returns-in-Some-clause-side c = side_found c.args.flat.now.equations c.args.entry c.in-Some.equation.now c.in-Some.ensures c.side_in.result c.side_in.ensures.side
