use Rattle.std.proofs.Common.{◌≤◌, ◌-◌, ◌++◌, List, ℕ, length}
use Rattle.mo_lexer.specs.declared.token.Token.{Token}
use Rattle.mo_lexer.specs.declared.fault.LexCode.{LexCode}
use Rattle.mo_lexer.specs.Tokens.{Divided, Faulty, mark_len}
use Rattle.mo_lexer.proofs.lexing.lex.Given as goal

abbrev pub invariant-loop-at : goal.invariant-loop-at
invariant-loop-at l = record {
  within : l.at ≤ length l.text;
  tokens : (rest : List Token) → Divided l.text l.at rest → Divided l.text (mark_len l.text) (l.tokens ++ rest);
  fault : (code : LexCode) (place : ℕ) → Faulty l.text l.at code place → Faulty l.text (mark_len l.text) code place;
}

abbrev pub decreases-loop-at : goal.decreases-loop-at
decreases-loop-at l = length l.text - l.at
