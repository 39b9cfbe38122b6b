-- The marks of cells.
use Rattle.std.proofs.Common.{◌≡◌, ◌≢◌, refl, ap, ap₂, sym, ◌∙◌, ℕ, zero, suc, ◌<◌, ◌&&◌, Bool, true, false, List, [], ◌∷◌, length, Contains, arith}
use Rattle.std.proofs.lemmas.Bool.{false≢true}
use Rattle.part_stretches.specs.Running.{tick_in}
use Rattle.first_failure.specs.Careful.{all_in, with_bit}

pub bit_same : (bits : List Bool) (c : ℕ) → c < length bits → tick_in (with_bit bits c) c ≡ true
bit_same [] c lt = absurd (omega (arith, lt))
bit_same (b ∷ bits) zero lt = refl
bit_same (b ∷ bits) (suc c) lt = bit_same bits c (omega (arith, lt))

pub bit_other : (bits : List Bool) (c d : ℕ) → d ≢ c → tick_in (with_bit bits c) d ≡ tick_in bits d
bit_other [] c d other = refl
bit_other (b ∷ bits) zero zero other = absurd (other refl)
bit_other (b ∷ bits) zero (suc d) other = refl
bit_other (b ∷ bits) (suc c) zero other = refl
bit_other (b ∷ bits) (suc c) (suc d) other = bit_other bits c d (λ e. other (ap suc e))

pub bit_size : (bits : List Bool) (c : ℕ) → length (with_bit bits c) ≡ length bits
bit_size [] c = refl
bit_size (b ∷ bits) zero = refl
bit_size (b ∷ bits) (suc c) = ap suc (bit_size bits c)

pub both_true : (a b : Bool) → (a && b) ≡ true → (a ≡ true) × (b ≡ true)
both_true true true h = (refl, refl)
both_true true false h = absurd (false≢true h)
both_true false b h = absurd (false≢true h)

pub in_at : (bits : List Bool) (places : List ℕ) (c : ℕ) → all_in bits places ≡ true → Contains places c → tick_in bits c ≡ true
in_at bits [] c all (k, lt, e) = absurd (omega (arith, lt))
in_at bits (x ∷ xs) c all (zero, lt, e) = ap (tick_in bits) (sym e) ∙ (both_true (tick_in bits x) (all_in bits xs) all).0
in_at bits (x ∷ xs) c all (suc k, lt, e) = in_at bits xs c (both_true (tick_in bits x) (all_in bits xs) all).1 (k, omega (arith, lt), e)

pub in_of : (bits : List Bool) (places : List ℕ) → ((c : ℕ) → Contains places c → tick_in bits c ≡ true) → all_in bits places ≡ true
in_of bits [] h = refl
in_of bits (x ∷ xs) h = ap₂ (λ a b. a && b) (h x (0, omega arith, refl)) (in_of bits xs (λ c (k, lt, e). h c (suc k, omega (arith, lt), e)))
