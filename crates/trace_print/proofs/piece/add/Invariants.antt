use Rattle.std.proofs.Common.{◌≡◌, ◌++◌, ◌+◌, take, vec_len, vec_capacity}
use Rattle.trace_print.proofs.piece.add.Given as goal

abbrev pub invariant-loop-byte : goal.invariant-loop-byte
invariant-loop-byte l = record {
  text : l.line.items ≡ l.initial.line.items ++ take l.byte-index l.piece;
  len : vec_len l.line ≡ vec_len l.initial.line + l.byte-index;
  room : vec_capacity l.line ≡ vec_capacity l.initial.line;
}
