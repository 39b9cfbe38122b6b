use Rattle.std.proofs.Common.{◌≡◌, ◌++◌, take}
use Rattle.trace_print.proofs.err_line.ErrLine.add.Given as goal

abbrev pub invariant-loop-byte : goal.invariant-loop-byte
invariant-loop-byte l = l.self ≡ l.initial.self ++ take l.byte-index l.piece
