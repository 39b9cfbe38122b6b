-- The text is not too long for a model.
use Rattle.std.proofs.Common.{◌≡◌, sym, subst, ℕ, zero, suc, ◌+◌, ◌*◌, ◌^◌, ◌<◌, ◌≤◌, ◌%◌, List, [], ◌++◌, codes, decimal, get_or, length, arith}
use Rattle.std.proofs.lemmas.Fmt.{length-decimal-le}
use Rattle.std.proofs.lemmas.List.{length-append}
use Rattle.stress_text.specs.Text.{around, rates, rate, declaration_line, declaration_lines, when_line, sampled, step_line, hold_line, equation_lines, lines_of, stress_text}

both_len : (a b : List ℕ) (m n : ℕ) → length a ≤ m → length b ≤ n → length (a ++ b) ≤ m + n
both_len a b m n p q = let sum = length-append a b in omega (arith, sum, p, q)

around_len : (before after : List ℕ) (number : ℕ) → number < 2 ^ 64 → length (around before number after) ≤ length before + 20 + length after
around_len before after number fits =
    both_len (before ++ decimal number) after (length before + 20) (length after)
    (both_len before (decimal number) (length before) 20 (omega arith) (length-decimal-le 20 number (omega arith) (omega (arith, fits)) fits)) (omega arith)

rates_small : (i : ℕ) → get_or rates i 0 ≤ 1000
rates_small zero = omega arith
rates_small (suc zero) = omega arith
rates_small (suc (suc zero)) = omega arith
rates_small (suc (suc (suc zero))) = omega arith
rates_small (suc (suc (suc (suc zero)))) = omega arith
rates_small (suc (suc (suc (suc (suc zero))))) = omega arith
rates_small (suc (suc (suc (suc (suc (suc i)))))) = omega arith

rate_small : (k : ℕ) → rate k < 2 ^ 64
unfolding rate
rate_small k = let small = rates_small (k % 6) in omega (arith, small)

module _ (k : ℕ) (few : k < 2 ^ 32) where
  next_fits : k + 1 < 2 ^ 64
  next_fits = omega (arith, few)

  declaration_len : (letter : List ℕ) → length letter ≤ 1 → length (declaration_line letter k) ≤ 33
  unfolding declaration_line
  declaration_len letter one =
      let first = both_len (codes "  Integer ") letter 10 1 (omega arith) one in
      let rest = around_len (codes "  Integer " ++ letter) (codes ";\n") (k + 1) next_fits in omega (arith, first, rest)

  declarations_len : length (declaration_lines k) ≤ 66
  declarations_len = both_len (declaration_line (codes "x") k) (declaration_line (codes "h") k) 33 33 (declaration_len (codes "x") (omega arith)) (declaration_len (codes "h") (omega arith))

  when_len : length (when_line k) ≤ 43
  unfolding when_line
  when_len = around_len (codes "  when Clock(1, ") (codes ") then\n") (rate k) (rate_small k)

  sampled_len : (r : ℕ) → length (sampled r k) ≤ 32
  sampled_len zero = omega arith
  sampled_len (suc r) = around_len (codes "sample(h") (codes ") + ") k (omega (arith, few))

  step_len : length (step_line k) ≤ 132
  unfolding step_line
  step_len =
      let first : length (around (codes "    x") (k + 1) (codes " = mod(")) ≤ 32 = around_len (codes "    x") (codes " = mod(") (k + 1) next_fits in
      let second : length (around (codes "previous(x") (k + 1) (codes ") * 31 + ")) ≤ 39 = around_len (codes "previous(x") (codes ") * 31 + ") (k + 1) next_fits in
      let fourth : length (around [] (k + 1) (codes ", 1000);\n")) ≤ 29 = around_len [] (codes ", 1000);\n") (k + 1) next_fits in
      let one = around (codes "    x") (k + 1) (codes " = mod(") in
      let two = around (codes "previous(x") (k + 1) (codes ") * 31 + ") in
      both_len (one ++ two ++ sampled (k % 4) k) (around [] (k + 1) (codes ", 1000);\n")) 103 29 (both_len (one ++ two) (sampled (k % 4) k) 71 32 (both_len one two 32 39 first second) (sampled_len (k % 4))) fourth

  hold_len : length (hold_line k) ≤ 60
  unfolding hold_line
  hold_len = both_len (around (codes "  h") (k + 1) (codes " = ")) (around (codes "hold(x") (k + 1) (codes ");\n")) 26 34
      (around_len (codes "  h") (codes " = ") (k + 1) next_fits) (let rest = around_len (codes "hold(x") (codes ");\n") (k + 1) next_fits in omega (arith, rest))

  equations_len : length (equation_lines k) ≤ 247
  equations_len = both_len _ _ 187 60 (both_len _ _ 175 12 (both_len _ _ 43 132 when_len step_len) (omega arith)) hold_len

all_len : (lines : ℕ → List ℕ) (most limit : ℕ) → ((k : ℕ) → k < limit → length (lines k) ≤ most) → (n : ℕ) → n ≤ limit → length (lines_of lines n) ≤ n * most
all_len lines most limit each zero within = omega arith
all_len lines most limit each (suc n) within =
    let so_far = all_len lines most limit each n (omega (arith, within)) in
    let sum = both_len (lines_of lines n) (lines n) (n * most) most so_far (each n (omega (arith, within))) in omega (arith, sum)

text_len : (n : ℕ) → n ≤ 1000 → length (stress_text n) ≤ 400000
unfolding stress_text
text_len n few =
    let names = all_len declaration_lines 66 1000 (λ k lt. declarations_len k (omega (arith, lt))) n few in
    let clauses = all_len equation_lines 247 1000 (λ k lt. equations_len k (omega (arith, lt))) n few in
    let one = codes "model Stress\n" ++ lines_of declaration_lines n in
    let two = one ++ codes "equation\n" in
    let three = two ++ lines_of equation_lines n in
    let first : length one ≤ 13 + n * 66 = both_len (codes "model Stress\n") (lines_of declaration_lines n) 13 (n * 66) (omega arith) names in
    let second : length two ≤ 22 + n * 66 = let sum = both_len one (codes "equation\n") (13 + n * 66) 9 first (omega arith) in omega (arith, sum) in
    let third : length three ≤ 22 + n * 66 + n * 247 = both_len two (lines_of equation_lines n) (22 + n * 66) (n * 247) second clauses in
    let whole = both_len three (codes "end Stress;\n") (22 + n * 66 + n * 247) 12 third (omega arith) in
    omega (arith, whole, few)

-- a thousand members have less than 400,000 bytes
pub text_short : (n : ℕ) (bytes : List ℕ) → n ≤ 1000 → bytes ≡ stress_text n → length bytes ≤ 400000
text_short n bytes few is = subst (λ t. length t ≤ 400000) (sym is) (text_len n few)
