use Rattle.std.proofs.Common.{◌≡◌, ◌<◌, ◌+◌, ◌∙◌, ℕ, List, true, false, ap, sym, subst, arith, drop, length, length-drop}
use Rattle.mo_lexer.specs.Bytes.{is_digit}
use Rattle.mo_lexer.specs.declared.piece.Piece.TheVariants as piece
use Rattle.mo_lexer.specs.Tokens.{Begins}
use Rattle.mo_lexer.specs.private.Front.{has_point, HasExponent}
use Rattle.mo_lexer.proofs.Numbers.{digits, pointed_number, whole_number, scaled_number}
use Rattle.mo_lexer.proofs.Pieces.{front_within}
use Rattle.mo_lexer.proofs.front.number.Goals as goal

pub returns-then-has_point : goal.returns-then-has_point
returns-then-has_point c =
    let t = c.args.text.now in
    let whole : c.digits_len-whole.result ≡ digits t = c.digits_len-whole.ensures in
    let rest : c.rest_from-rest.result.now ≡ drop (digits t) t = c.rest_from-rest.ensures ∙ ap (λ (k : ℕ). drop k t) whole in
    let behind : c.rest_from-behind.result.now ≡ drop 1 (drop (digits t) t) = c.rest_from-behind.ensures ∙ ap (drop 1) rest in
    let places : c.digits_len-places.result ≡ digits (drop 1 (drop (digits t) t)) = c.digits_len-places.ensures ∙ ap digits behind in
    let last : c.rest_from.result.now ≡ drop (digits (drop 1 (drop (digits t) t))) (drop 1 (drop (digits t) t)) = c.rest_from.ensures ∙ (λ i. drop (places i) (behind i)) in
    let point : has_point (drop (digits t) t) ≡ true = ap has_point (sym rest) ∙ sym c.has_point.ensures.value ∙ c.if-has_point.true in
    let n = c.exponent_len-exponent.result in
    subst (λ (k : ℕ). Begins piece.Real k t) (λ i. sym whole i + 1 + sym places i + n)
    (pointed_number t n c.requires.some c.requires.digit point (subst (λ (z : List ℕ). HasExponent z n) last c.exponent_len-exponent.ensures))

pub returns-then-exponent-eq0 : goal.returns-then-exponent-eq0
returns-then-exponent-eq0 c =
    let t = c.args.text.now in
    let whole : c.digits_len-whole.result ≡ digits t = c.digits_len-whole.ensures in
    let rest : c.rest_from-rest.result.now ≡ drop (digits t) t = c.rest_from-rest.ensures ∙ ap (λ (k : ℕ). drop k t) whole in
    let point : has_point (drop (digits t) t) ≡ false = ap has_point (sym rest) ∙ sym c.has_point.ensures.value ∙ c.if-has_point.false in
    subst (λ (k : ℕ). Begins piece.Integer k t) (sym whole)
    (whole_number t c.requires.some c.requires.digit point (subst (λ (z : List ℕ). HasExponent z 0) rest (subst (λ (n : ℕ). HasExponent c.rest_from-rest.result.now n) c.if-exponent-eq0.true c.exponent_len-exponent-2.ensures)))

pub returns-else-exponent-eq0 : goal.returns-else-exponent-eq0
returns-else-exponent-eq0 c =
    let t = c.args.text.now in
    let whole : c.digits_len-whole.result ≡ digits t = c.digits_len-whole.ensures in
    let rest : c.rest_from-rest.result.now ≡ drop (digits t) t = c.rest_from-rest.ensures ∙ ap (λ (k : ℕ). drop k t) whole in
    let point : has_point (drop (digits t) t) ≡ false = ap has_point (sym rest) ∙ sym c.has_point.ensures.value ∙ c.if-has_point.false in
    let n = c.exponent_len-exponent-2.result in
    let more : 0 < n = omega arith in
    subst (λ (k : ℕ). Begins piece.Real (k + n) t) (sym whole)
    (scaled_number t n c.requires.some c.requires.digit point more (subst (λ (z : List ℕ). HasExponent z n) rest c.exponent_len-exponent-2.ensures))

pub rest_from-rest-requires : goal.rest_from-rest-requires
rest_from-rest-requires c = omega (arith, c.digits_len-whole.ensures, front_within is_digit c.args.text.now)

pub rest_from-behind-requires : goal.rest_from-behind-requires
rest_from-behind-requires c = c.has_point.ensures.some c.if-has_point.true

pub rest_from-requires : goal.rest_from-requires
rest_from-requires c = omega (arith, c.digits_len-places.ensures, front_within is_digit c.rest_from-behind.result.now)

pub overflow_add-result : goal.overflow_add-result
overflow_add-result c =
    let rest = ap length c.rest_from-rest.ensures ∙ length-drop c.digits_len-whole.result c.args.text.now in
    omega (arith, rest, c.has_point.ensures.some c.if-has_point.true)

pub overflow_add-result-then-has_point : goal.overflow_add-result-then-has_point
overflow_add-result-then-has_point c =
    let rest = ap length c.rest_from-rest.ensures ∙ length-drop c.digits_len-whole.result c.args.text.now in
    let behind = ap length c.rest_from-behind.ensures ∙ length-drop 1 c.rest_from-rest.result.now in
    omega (arith, rest, behind, c.has_point.ensures.some c.if-has_point.true, c.digits_len-places.ensures, front_within is_digit c.rest_from-behind.result.now)

pub overflow_add-result-then-has_point-2 : goal.overflow_add-result-then-has_point-2
overflow_add-result-then-has_point-2 c =
    let rest = ap length c.rest_from-rest.ensures ∙ length-drop c.digits_len-whole.result c.args.text.now in
    let behind = ap length c.rest_from-behind.ensures ∙ length-drop 1 c.rest_from-rest.result.now in
    let last = ap length c.rest_from.ensures ∙ length-drop c.digits_len-places.result c.rest_from-behind.result.now in
    omega (arith, rest, behind, last, c.has_point.ensures.some c.if-has_point.true, c.exponent_len-exponent.ensures.within, c.digits_len-places.ensures, front_within is_digit c.rest_from-behind.result.now)

pub overflow_add-result-else-exponent-eq0 : goal.overflow_add-result-else-exponent-eq0
overflow_add-result-else-exponent-eq0 c =
    let rest = ap length c.rest_from-rest.ensures ∙ length-drop c.digits_len-whole.result c.args.text.now in
    omega (arith, rest, c.exponent_len-exponent-2.ensures.within, c.digits_len-whole.ensures, front_within is_digit c.args.text.now)
