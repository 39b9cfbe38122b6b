use Rattle.std.proofs.Common.{arith}
use Rattle.trace_print.proofs.Cells.{as_many}
use Rattle.trace_print.proofs.line.count_columns.Goals as goal

pub loop-name-init : goal.loop-name-init
loop-name-init c = record { so_far = omega (arith, as_many 0 c.args.names.now); few = omega arith }
