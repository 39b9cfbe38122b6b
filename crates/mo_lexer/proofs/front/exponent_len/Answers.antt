use Rattle.std.proofs.Common.{◌≡◌, ◌<◌, ◌+◌, ◌∙◌, ℕ, ap, sym, subst, rules, arith, length, drop, slice_index, true}
use Rattle.mo_lexer.specs.Bytes.{is_exponent_letter}
use Rattle.mo_lexer.specs.private.Front.{sign_len, HasExponent}
use Rattle.mo_lexer.proofs.Numbers.{digits, exponent_none, exponent}
use Rattle.mo_lexer.proofs.front.exponent_len.Goals as goal

pub returns-then-digits-eq0 : goal.returns-then-digits-eq0
returns-then-digits-eq0 c =
    let t = c.args.text.now in
    let some : 0 < length t = search rules in
    let sign : c.sign_len-sign.result ≡ sign_len (drop 1 t) = c.sign_len-sign.ensures ∙ ap sign_len c.rest_from-behind.ensures in
    let behind : c.rest_from.result.now ≡ drop (sign_len (drop 1 t)) (drop 1 t) = c.rest_from.ensures ∙ (λ i. drop (sign i) (c.rest_from-behind.ensures i)) in
    let none : digits (drop (sign_len (drop 1 t)) (drop 1 t)) ≡ 0 = ap digits (sym behind) ∙ sym c.digits_len-digits.ensures ∙ c.if-digits-eq0.true in
    exponent_none t some none

pub returns-else-digits-eq0 : goal.returns-else-digits-eq0
returns-else-digits-eq0 c =
    let t = c.args.text.now in
    let some : 0 < length t = search rules in
    let letter : is_exponent_letter (slice_index t 0) ≡ true = search rules in
    let sign : c.sign_len-sign.result ≡ sign_len (drop 1 t) = c.sign_len-sign.ensures ∙ ap sign_len c.rest_from-behind.ensures in
    let behind : c.rest_from.result.now ≡ drop (sign_len (drop 1 t)) (drop 1 t) = c.rest_from.ensures ∙ (λ i. drop (sign i) (c.rest_from-behind.ensures i)) in
    let size : c.digits_len-digits.result ≡ digits (drop (sign_len (drop 1 t)) (drop 1 t)) = c.digits_len-digits.ensures ∙ ap digits behind in
    let more : 0 < digits (drop (sign_len (drop 1 t)) (drop 1 t)) = grind arith in
    subst (λ (n : ℕ). HasExponent t n) (λ i. 1 + sym sign i + sym size i) (exponent t some letter more)
