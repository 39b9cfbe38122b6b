use Rattle.std.proofs.Common.{ap, length, arith}
use Rattle.trace_print.proofs.line.reserve.Goals as goal

pub overflow_mul-row : goal.overflow_mul-row
overflow_mul-row c = omega (arith, c.count_columns-columns.ensures.few, ap (λ names. length names) c.as_slice-names.ensures, c.requires.few)

pub overflow_add-row : goal.overflow_add-row
overflow_add-row c = omega (arith, c.count_columns-columns.ensures.few, ap (λ names. length names) c.as_slice-names.ensures, c.requires.few)

pub overflow_add-row-2 : goal.overflow_add-row-2
overflow_add-row-2 c = omega (arith, c.count_columns-columns.ensures.few, ap (λ names. length names) c.as_slice-names.ensures, c.requires.few)
