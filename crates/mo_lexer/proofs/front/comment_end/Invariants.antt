use Rattle.std.proofs.Common.{◌<◌, ◌+◌, ℕ}
use Rattle.mo_lexer.specs.private.Front.{HasEnd}
use Rattle.mo_lexer.proofs.front.comment_end.Given as goal

abbrev pub invariant-loop-at : goal.invariant-loop-at
invariant-loop-at l = (before : ℕ) → before + 1 < l.at → HasEnd l.inside before → ⊥
