-- Counts over places that do not fall.
use Rattle.std.proofs.Common.{◌≡◌, refl, ap, sym, ◌∙◌, ℕ, zero, suc, ◌+◌, ◌-◌, ◌<◌, ◌≤◌, ◌&&◌, Bool, true, false, cond, List, [], ◌∷◌, map, length, get_or, arith, nat_lt, nat_le}
use Rattle.std.proofs.lemmas.Bool.Decides.{nat_tests}
use Rattle.std.specs.List.{count_by}
use Rattle.std.specs.List.Sorted.{IsPermutation, IsPartitionPoint}
use Rattle.std.proofs.lemmas.List.Sums.{sum_by-cons}
use Rattle.std.proofs.lemmas.List.Sorted.{sum_by-IsPermutation}
use Rattle.mo_lexer.specs.declared.token.Token.{Token}
use Rattle.source_tokens.specs.Pieces.{begins_before, begins_in, tokens_before, tokens_in}
use Rattle.source_tokens.specs.private.Places.{begin}

one_more : {X : Type 0} (p : X → Bool) (x : X) (xs : List X) (b : Bool) → p x ≡ b → count_by p (x ∷ xs) ≡ cond b 1 0 + count_by p xs
one_more p x xs b is = sum_by-cons (λ y. cond (p y) 1 0) x xs ∙ ap (λ c. cond c 1 0 + count_by p xs) is

none_pass : {X : Type 0} (p : X → Bool) (xs : List X) → ((k : ℕ) (d : X) → k < length xs → p (get_or xs k d) ≡ false) → count_by p xs ≡ 0
none_pass p [] none = refl
none_pass p (x ∷ xs) none =
    let rest : count_by p xs ≡ 0 = none_pass p xs (λ k d lt. none (suc k) d (omega (arith, lt))) in
    one_more p x xs false (none 0 x (omega arith)) ∙ omega (arith, rest)

-- as many pass as stand before the first that does not
passed : {X : Type 0} (p : X → Bool) (xs : List X) (i : ℕ) → i ≤ length xs → ((k : ℕ) (d : X) → k < i → p (get_or xs k d) ≡ true)
    → ((k : ℕ) (d : X) → i ≤ k → k < length xs → p (get_or xs k d) ≡ false) → count_by p xs ≡ i
passed p xs zero within pass fail = none_pass p xs (λ k d lt. fail k d (omega arith) lt)
passed p [] (suc i) within pass fail = absurd (omega (arith, within))
passed p (x ∷ xs) (suc i) within pass fail =
    let rest : count_by p xs ≡ i =
    passed p xs i (omega (arith, within)) (λ k d lt. pass (suc k) d (omega (arith, lt))) (λ k d le lt. fail (suc k) d (omega (arith, le)) (omega (arith, lt))) in
    one_more p x xs true (pass 0 x (omega arith)) ∙ omega (arith, rest)

pub point_counts : {X : Type 0} (p : X → Bool) (xs : List X) (i : ℕ) → i ≤ length xs → IsPartitionPoint (λ y. p y ≡ true) (λ y. p y ≡ false) xs i
    → i ≡ count_by p xs
point_counts p xs i within point = sym (passed p xs i within (λ k d lt. point.0 k d (omega arith) lt) (λ k d le lt. point.1 k d le lt))

begins : (byte : ℕ) (tokens : List Token) → count_by (λ place. nat_lt place byte) (map begin tokens) ≡ tokens_before tokens byte
begins byte [] = refl
begins byte (token ∷ tokens) =
    one_more (λ place. nat_lt place byte) token.at (map begin tokens) (nat_lt token.at byte) refl ∙ ap (λ n. cond (nat_lt token.at byte) 1 0 + n) (begins byte tokens)
    ∙ sym (one_more (begins_before byte) token tokens (nat_lt token.at byte) refl)

-- places in another order are as many before each byte
pub counted_from : (tokens : List Token) (found places : List ℕ) → found ≡ map begin tokens → IsPermutation found places
    → (byte : ℕ) → count_by (λ place. nat_lt place byte) places ≡ tokens_before tokens byte
counted_from tokens found places these same byte =
    sum_by-IsPermutation (λ place. cond (nat_lt place byte) 1 0) found places same ∙ ap (count_by (λ place. nat_lt place byte)) these ∙ begins byte tokens

-- one token before the end of a piece begins before the piece or in it
split_one : (at end x : ℕ) → at ≤ end → cond (nat_lt x end) 1 0 ≡ cond (nat_lt x at) 1 0 + cond (nat_le at x && nat_lt x end) 1 0
split_one at end x le = grind (arith, nat_tests)

abbrev one_if : Bool → ℕ
one_if b = cond b 1 0

none_one : (at end x : ℕ) → end ≤ at → one_if (nat_le at x && nat_lt x end) ≡ 0
none_one at end x le = grind (arith, nat_tests)

less_one : (at end x : ℕ) → end ≤ at → cond (nat_lt x end) 1 0 ≤ cond (nat_lt x at) 1 0
less_one at end x le = grind (arith, nat_tests)

split : (at end : ℕ) → at ≤ end → (tokens : List Token) → tokens_before tokens end ≡ tokens_before tokens at + tokens_in tokens at end
split at end le [] = refl
split at end le (token ∷ tokens) =
    let last = one_more (begins_before end) token tokens _ refl in
    let first = one_more (begins_before at) token tokens _ refl in
    let inside = one_more (begins_in at end) token tokens _ refl in
    let here = split_one at end token.at le in
    let rest = split at end le tokens in
    omega (arith, last, first, inside, here, rest)

none_in : (at end : ℕ) → end ≤ at → (tokens : List Token) → (tokens_in tokens at end ≡ 0) × (tokens_before tokens end ≤ tokens_before tokens at)
none_in at end le [] = (refl, omega arith)
none_in at end le (token ∷ tokens) =
    let last = one_more (begins_before end) token tokens _ refl in
    let first = one_more (begins_before at) token tokens _ refl in
    let inside = one_more (begins_in at end) token tokens _ refl in
    let none = none_one at end token.at le in
    let less = less_one at end token.at le in
    let rest = none_in at end le tokens in
    let zero_in : tokens_in (token ∷ tokens) at end ≡ 0 = omega (arith, inside, none, rest.0) in
    let fewer : tokens_before (token ∷ tokens) end ≤ tokens_before (token ∷ tokens) at = omega (arith, last, first, less, rest.1) in
    (zero_in, fewer)

-- in a piece begin as many as before its end and not before it
pub piece_counts : (tokens : List Token) (at end : ℕ) → tokens_before tokens end - tokens_before tokens at ≡ tokens_in tokens at end
piece_counts tokens at end = by (nat_le at end) refl
  where
    by : (b : Bool) → nat_le at end ≡ b → tokens_before tokens end - tokens_before tokens at ≡ tokens_in tokens at end
    by true is = let le : at ≤ end = grind (arith, nat_tests) in let whole = split at end le tokens in omega (arith, whole)
    by false is = let le : end ≤ at = grind (arith, nat_tests) in let whole = none_in at end le tokens in omega (arith, whole.0, whole.1)
