use Rattle.std.proofs.Common.{sym}
use Rattle.step_lines.proofs.Counting.{needs_value, needs_skip}
use Rattle.step_lines.proofs.count.cells_of_one.Goals as goal

pub returns-then-writes : goal.returns-then-writes
returns-then-writes c = needs_value c.args.instr c.larger.result c.larger-operands.result (sym c.if-writes.ensures) c.larger-operands.ensures c.larger.ensures

pub returns-else-writes : goal.returns-else-writes
returns-else-writes c = needs_skip c.args.instr c.larger-operands.result (sym c.if-writes.ensures) c.larger-operands.ensures
