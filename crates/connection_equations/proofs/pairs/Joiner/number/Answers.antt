use Rattle.std.proofs.Common.{◌<◌, ◌∙◌, sym, arith}
use Rattle.connection_equations.proofs.pairs.Joiner.number.Goals as goal

pub overflow_cast-result : goal.overflow_cast-result
overflow_cast-result c =
    let below : c.in-Some.number < c.args.self.now.count = c.args.self.now.below c.args.name.now c.in-Some.number (sym c.number.ensures ∙ c.in-Some.is) in
    omega (arith, below, c.args.self.now.few)
