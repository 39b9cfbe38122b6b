-- What a division leaves.
use Rattle.std.proofs.Common.{◌≡◌, ◌≢◌, ◌⊎◌, inl, inr, ◌∙◌, ap, sym, ◌+◌, ◌*◌, ◌/◌, ◌%◌, ◌<◌, ℕ, zero, suc, ℤ, pos, negsuc, ◌+ℤ◌, neg_ℤ, ◌<ℤ◌, FitsSigned, w64, true, false, int_rem, Ok, arith, refl}
use Rattle.std.proofs.lemmas.Int.{ints, quot-rem}
use Rattle.std.proofs.lemmas.Nat.{div-add-mod', mod-mul-add}
use Rattle.std.proofs.lemmas.Bool.Decides.{nat_tests}
use Rattle.std.proofs.Math.Nat.{zero-mod, zero-div, mod-lt, eq-or-lt_of_le, mul-add-mod_self_right, mod_self}
use Rattle.sync_values.specs.Arithmetic.{exact_rem, exact_modulo, unlike, fitted, over}

-- a remainder is what the quotient rounded towards 0 leaves
pub rem_exact : (a b : ℤ) → exact_rem a b ≡ int_rem a b
rem_exact a b = omega (arith, ints, quot-rem a b)

-- the remainder of the next number: one more, or 0 where that is the divisor
next_rem : (a n : ℕ) → 0 < n → (suc a % n ≡ suc (a % n)) ⊎ ((suc a % n ≡ 0) × (suc (a % n) ≡ n))
next_rem a n some = elim (eq-or-lt_of_le {n = suc (a % n)} {m = n} (let h = mod-lt a some in omega arith)) [
  | inl full ↦ inr (ap (λ z. z % n) (whole ∙ ap (λ z. a / n * n + z) full) ∙ mul-add-mod_self_right (a / n) n n ∙ mod_self n, full)
  | inr less ↦ inl (ap (λ z. z % n) whole ∙ mod-mul-add (a / n) n (suc (a % n)) less)
]
  where
    whole : suc a ≡ a / n * n + suc (a % n)
    whole = omega (arith, div-add-mod' a n)

-- from here on the floor: for each pair of signs, what is left is the remainder, or the remainder and the divisor
both_up : (a b : ℕ) → exact_modulo (pos a) (pos b) ≡ int_rem (pos a) (pos b)
both_up a b = omega (arith, ints, div-add-mod' a b)

both_down : (a b : ℕ) → exact_modulo (negsuc a) (negsuc b) ≡ int_rem (negsuc a) (negsuc b)
both_down a b = omega (arith, ints, div-add-mod' (suc a) (suc b))

unlike_up : (a b : ℕ) → ((int_rem (negsuc a) (pos (suc b)) ≡ pos 0) × (exact_modulo (negsuc a) (pos (suc b)) ≡ pos 0))
    ⊎ ((int_rem (negsuc a) (pos (suc b)) <ℤ pos 0) × (exact_modulo (negsuc a) (pos (suc b)) ≡ int_rem (negsuc a) (pos (suc b)) +ℤ pos (suc b)))
unlike_up a b = elim (next_rem a (suc b) (omega arith)) [
  | inl more ↦ inr (rw more (omega (arith, ints)), rw more (omega (arith, ints, div-add-mod' a (suc b), more)))
  | inr none ↦ inl (rw none.0 refl, omega (arith, ints, div-add-mod' a (suc b), none.0, none.1))
]

unlike_down : (a b : ℕ) → ((int_rem (pos (suc a)) (negsuc b) ≡ pos 0) × (exact_modulo (pos (suc a)) (negsuc b) ≡ pos 0))
    ⊎ ((pos 0 <ℤ int_rem (pos (suc a)) (negsuc b)) × (exact_modulo (pos (suc a)) (negsuc b) ≡ int_rem (pos (suc a)) (negsuc b) +ℤ negsuc b))
unlike_down a b = elim (next_rem a (suc b) (omega arith)) [
  | inl more ↦ inr (rw more (omega (arith, ints)), omega (arith, ints, div-add-mod' a (suc b), more))
  | inr none ↦ inl (rw none.0 refl, omega (arith, ints, div-add-mod' a (suc b), none.0, none.1))
]

-- the signs of a remainder and its divisor differ
pub data AreUnlike (left b : ℤ) : Type 0 where
  below : left <ℤ pos 0 → pos 0 <ℤ b → AreUnlike left b
  above : pos 0 <ℤ left → b <ℤ pos 0 → AreUnlike left b

pub unlike_is : (a b : ℤ) → unlike a b ≡ true → AreUnlike a b
unlike_is (pos n) (pos b) h = absurd (grind (arith, nat_tests))
unlike_is (pos n) (negsuc b) h = let some : 0 < n = grind (arith, nat_tests) in above (omega (arith, ints)) (omega (arith, ints))
unlike_is (negsuc n) (pos b) h = let some : 0 < b = grind (arith, nat_tests) in below (omega (arith, ints)) (omega (arith, ints))
unlike_is (negsuc n) (negsuc b) h = absurd (grind (arith, nat_tests))

pub like_is : (a b : ℤ) → unlike a b ≡ false → AreUnlike a b → ⊥
like_is a b h (below l r) = grind (arith, ints)
like_is a b h (above l r) = grind (arith, ints)

none_unlike : (left b : ℤ) → left ≡ pos 0 → AreUnlike left b → ⊥
none_unlike left b none (below l r) = omega (arith, ints)
none_unlike left b none (above l r) = omega (arith, ints)

not_up : (n b : ℕ) → AreUnlike (pos n) (pos b) → ⊥
not_up n b (below l r) = omega (arith, ints)
not_up n b (above l r) = omega (arith, ints)

not_down : (n b : ℕ) → AreUnlike (neg_ℤ (pos n)) (negsuc b) → ⊥
not_down n b (below l r) = omega (arith, ints)
not_down n b (above l r) = omega (arith, ints)

-- where the signs differ, the floor leaves the remainder and the divisor
pub modulo_moved : (a b : ℤ) → b ≢ pos 0 → AreUnlike (int_rem a b) b → exact_modulo a b ≡ int_rem a b +ℤ b
modulo_moved (pos a) (pos b) some differ = absurd (not_up (a % b) b differ)
modulo_moved (negsuc a) (pos zero) some differ = absurd (some refl)
modulo_moved (negsuc a) (pos (suc b)) some differ = elim (unlike_up a b) [ inl none ↦ absurd (none_unlike _ _ none.0 differ) | inr is ↦ is.1 ]
modulo_moved (pos zero) (negsuc b) some differ = absurd (none_unlike _ _ (ap pos (zero-mod (suc b))) differ)
modulo_moved (pos (suc a)) (negsuc b) some differ = elim (unlike_down a b) [ inl none ↦ absurd (none_unlike _ _ none.0 differ) | inr is ↦ is.1 ]
modulo_moved (negsuc a) (negsuc b) some differ = absurd (not_down (suc a % suc b) b differ)

-- elsewhere it leaves the remainder
pub modulo_same : (a b : ℤ) → b ≢ pos 0 → (AreUnlike (int_rem a b) b → ⊥) → exact_modulo a b ≡ int_rem a b
modulo_same (pos a) (pos b) some alike = both_up a b
modulo_same (negsuc a) (pos zero) some alike = absurd (some refl)
modulo_same (negsuc a) (pos (suc b)) some alike = elim (unlike_up a b) [ inl none ↦ none.1 ∙ sym none.0 | inr is ↦ absurd (alike (below is.0 (omega (arith, ints)))) ]
modulo_same (pos zero) (negsuc b) some alike = omega (arith, ints, zero-mod (suc b), zero-div (suc b))
modulo_same (pos (suc a)) (negsuc b) some alike = elim (unlike_down a b) [ inl none ↦ none.1 ∙ sym none.0 | inr is ↦ absurd (alike (above is.0 (omega (arith, ints)))) ]
modulo_same (negsuc a) (negsuc b) some alike = both_down a b

-- ---- answers that fit

pub fitted_is : (z : ℤ) → FitsSigned w64 z → fitted z ≡ Ok z
fitted_is (pos n) fits = grind (arith, nat_tests, fits.sfits)
fitted_is (negsuc n) fits = grind (arith, nat_tests, fits.sfits)

pub over_some : (b exact : ℤ) → b ≢ pos 0 → over b exact ≡ fitted exact
over_some (pos zero) exact some = absurd (some refl)
over_some (pos (suc n)) exact some = refl
over_some (negsuc n) exact some = refl

-- numbers on the two sides of 0 have a sum that fits
pub sum_fits : (a b : ℤ) → AreUnlike a b → FitsSigned w64 a → FitsSigned w64 b → FitsSigned w64 (a +ℤ b)
sum_fits (pos a) (pos b) (below l r) f g = absurd (omega (arith, ints))
sum_fits (pos a) (pos b) (above l r) f g = absurd (omega (arith, ints))
sum_fits (pos a) (negsuc b) differ f g = grind (arith, ints, f.sfits, g.sfits)
sum_fits (negsuc a) (pos b) differ f g = grind (arith, ints, f.sfits, g.sfits)
sum_fits (negsuc a) (negsuc b) (below l r) f g = absurd (omega (arith, ints))
sum_fits (negsuc a) (negsuc b) (above l r) f g = absurd (omega (arith, ints))

-- an answer of a division that fits
pub answered : (b exact z : ℤ) → b ≢ pos 0 → exact ≡ z → FitsSigned w64 z → over b exact ≡ Ok z
answered b exact z some is fits = over_some b exact some ∙ ap fitted is ∙ fitted_is z fits
