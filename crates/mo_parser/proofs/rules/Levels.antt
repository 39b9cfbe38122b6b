-- A rule at each number of levels, made of itself one level deeper.
use Rattle.std.proofs.Common.{◌≡◌, ◌≤◌, ◌<◌, inl, inr, ℕ, zero, suc, List, [], Some, None, refl, ap, sym, ◌∙◌, subst, arith}
use Rattle.mo_lexer.specs.declared.token.Token.{Token}
use Rattle.mo_parser.specs.grammar.Places.{Swap}
use Rattle.mo_parser.specs.grammar.Rules.{Rule, too_deep}
use Rattle.mo_parser.specs.reading.Outcomes.{Outcome, Parser, Deep}
use Rattle.mo_parser.proofs.rules.Fits.{Fits, Goes_on, Some_of}
use Rattle.mo_parser.proofs.rules.Lists.{Below, Halts, front_none, none, rest_of, swap_same}

-- a statement for all numbers above n from one for all above its predecessor
by_suc : (n : ℕ) (P : ℕ → Type 0) → ((k : ℕ) → n ≤ k → P (suc k)) → (m : ℕ) → suc n ≤ m → P m
by_suc n P each zero le = absurd (omega arith)
by_suc n P each (suc k) le = each k (omega arith)

module _ {A : Type 0} {starts more : List ℕ} {R L : ℕ → Rule A} {p q : ℕ → Parser A}
    (no_level : R 0 ≡ too_deep) (one_more : (n : ℕ) → R (suc n) ≡ L n)
    (no_read : (a : List Token) → p 0 a ≡ Deep a) (one_more_read : (n : ℕ) (a : List Token) → p (suc n) a ≡ q n a)
    (some : (m : ℕ) → 0 < m → Some_of (R m))
    (level : (n : ℕ) → Fits starts more 1 (Some []) R p n → Fits starts more 1 None L q n) where
  nothing : (t : A) (a b : List Token) → (R 0).spells t a b → ⊥
  unfolding too_deep
  nothing t a b r = let P : Rule A → Type 0 = λ S. S.spells t a b in subst P no_level r

  at_once : (a b : List Token) → (R 0).exceeds a b → a ≡ b
  unfolding too_deep
  at_once a b r = let P : Rule A → Type 0 = λ S. S.exceeds a b in subst P no_level r

  exceeds_at : (a b : List Token) → a ≡ b → (R 0).exceeds a b
  unfolding too_deep
  exceeds_at a b e = let P : Rule A → Type 0 = λ S. S.exceeds a b in subst P (sym no_level) e

  up : (n : ℕ) (t : A) (a b : List Token) → (L n).spells t a b → (R (suc n)).spells t a b
  up n t a b r = let P : Rule A → Type 0 = λ S. S.spells t a b in subst P (sym (one_more n)) r

  down : (n : ℕ) (t : A) (a b : List Token) → (R (suc n)).spells t a b → (L n).spells t a b
  down n t a b r = let P : Rule A → Type 0 = λ S. S.spells t a b in subst P (one_more n) r

  exceeds_up : (n : ℕ) (a b : List Token) → (L n).exceeds a b → (R (suc n)).exceeds a b
  exceeds_up n a b r = let P : Rule A → Type 0 = λ S. S.exceeds a b in subst P (sym (one_more n)) r

  exceeds_down : (n : ℕ) (a b : List Token) → (R (suc n)).exceeds a b → (L n).exceeds a b
  exceeds_down n a b r = let P : Rule A → Type 0 = λ S. S.exceeds a b in subst P (one_more n) r

  fits_zero : Fits starts more 1 (Some []) R p 0
  fits_zero = record {
    sound = λ t a b h. let deep = no_read a in cc;
    complete = λ t a b r o. absurd (nothing t a b r);
    first = λ t a b r. absurd (nothing t a b r);
    size = λ t a b r. absurd (nothing t a b r);
    deep_sound = λ a b h. let deep = no_read a in exceeds_at a b cc;
    deep_complete = λ a b r. no_read a ∙ ap (λ (ts : List Token). Deep ts) (at_once a b r);
    deep_first = λ a b r. inr refl;
    takes = λ a. rw (no_read a) (none a);
    local = λ a a' b' s.
        let P : Outcome A → Type 0 = λ o. Swap a (rest_of o) a' b' in
        rw (no_read a, no_read a') (ap (λ (ts : List Token). Deep ts) (swap_same a a' b' (subst P (no_read a) s)));
    deeper = λ m le t a b r. absurd (nothing t a b r);
    below = λ m le a. rw (no_read a) tt;
    puts = λ t a b b' r. absurd (nothing t a b r);
    goes = λ a b h m lt.
        let P : Outcome A → Type 0 = λ o. Halts o b in
        let (t, rest) = some m lt in (t, λ c. let (a', r) = rest c in (a', a', front_none a b a' (subst P (no_read a) h), r));
    some = some;
  }

  fits_suc : (n : ℕ) → Fits starts more 1 None L q n → Fits starts more 1 (Some []) R p (suc n)
  fits_suc n f = record {
    sound = λ t a b h. up n t a b (f.sound t a b (sym (one_more_read n a) ∙ h));
    complete = λ t a b r o. one_more_read n a ∙ f.complete t a b (down n t a b r) o;
    first = λ t a b r. f.first t a b (down n t a b r);
    size = λ t a b r. f.size t a b (down n t a b r);
    deep_sound = λ a b h. exceeds_up n a b (f.deep_sound a b (sym (one_more_read n a) ∙ h));
    deep_complete = λ a b r. one_more_read n a ∙ f.deep_complete a b (exceeds_down n a b r);
    deep_first = λ a b r. elim (f.deep_first a b (exceeds_down n a b r)) [ inl i ↦ inl i | inr never ↦ absurd never ];
    takes = λ a. rw (one_more_read n a) (f.takes a);
    local = λ a a' b' s.
        let P : Outcome A → Type 0 = λ o. Swap a (rest_of o) a' b' in
        rw (one_more_read n a, one_more_read n a') (f.local a a' b' (subst P (one_more_read n a) s));
    deeper = λ m le t a b r. by_suc n (λ j. (R j).spells t a b) (λ k l. up k t a b (f.deeper k l t a b (down n t a b r))) m le;
    below = λ m le a. by_suc n (λ j. Below (p (suc n) a) (p j a)) (λ k l. rw (one_more_read n a, one_more_read k a) (f.below k l a)) m le;
    puts = λ t a b b' r. let (a', front, r') = f.puts t a b b' (down n t a b r) in (a', front, up n t a' b' r');
    goes = λ a b h m lt.
        let P : Outcome A → Type 0 = λ o. Halts o b in let ends = subst P (one_more_read n a) h in
        by_suc (suc n) (λ j. Goes_on (R j) a b) (λ k l. let (t, rest) = f.goes a b ends k l in (t, λ c. let (a', b', front, r) = rest c in (a', b', front, up k t a' c r))) m lt;
    some = some;
  }

  pub fits_levels : (n : ℕ) → Fits starts more 1 (Some []) R p n
  fits_levels zero = fits_zero
  fits_levels (suc n) = fits_suc n (level n (fits_levels n))
