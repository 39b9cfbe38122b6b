use Rattle.std.proofs.Common.{◌≡◌, ◌<◌, take}
use Rattle.mo_lexer.specs.Tokens.{value_of}
use Rattle.mo_lexer.proofs.lexing.value.Given as goal

abbrev pub invariant-loop-byte : goal.invariant-loop-byte
invariant-loop-byte l = (l.value ≡ value_of (take l.byte-index l.digits)) × (l.value < 9223372036854775808)
