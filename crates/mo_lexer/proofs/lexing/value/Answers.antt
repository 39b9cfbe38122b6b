use Rattle.std.proofs.Common.{◌≡◌, ◌≤◌, ◌+◌, ◌*◌, ◌-◌, take, get_or, arith}
use Rattle.std.proofs.lemmas.List.Sums.{fold_more}
use Rattle.mo_lexer.specs.Tokens.{value_of}
use Rattle.mo_lexer.proofs.Steps.{front_smaller, digit_low}
use Rattle.mo_lexer.proofs.lexing.value.Goals as goal

pub returns-then-value-digit : goal.returns-then-value-digit
returns-then-value-digit c = λ small.
    let i = c.loop-byte.byte-index in let ds = c.args.digits.now in
    let next : value_of (take (i + 1) ds) ≡ 10 * value_of (take i ds) + (get_or ds i 0 - 48) = fold_more (λ n digit. 10 * n + (digit - 48)) 0 ds i 0 (omega arith) in
    let whole : value_of (take (i + 1) ds) ≤ value_of ds = front_smaller ds (i + 1) 0 in
    let now = c.loop-byte.invariant.0 in
    let low = digit_low ds i c.requires (omega arith) in
    omega (arith, next, whole, now, small, low)
