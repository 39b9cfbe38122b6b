-- Every fraction has a form in lowest terms.
use Rattle.std.proofs.Common.{refl, ℕ, zero, suc, ◌/◌, ◌%◌, ◌<◌, ◌≤◌, arith}
use Rattle.std.specs.Int.{IsGcd}
use Rattle.std.proofs.lemmas.Nat.Gcd.{IsGcd-from_zero, IsGcd-from_mod}
use Rattle.rational_time.specs.declared.ratio.Ratio.{Ratio}
use Rattle.rational_time.specs.Fraction.{IsFraction}
use Rattle.rational_time.proofs.Fractions.{lowest_quotients}

gcd_by : (n a b : ℕ) → b ≤ n → (g : ℕ) × IsGcd a b g
gcd_by n a zero le = (a, IsGcd-from_zero a 0 refl)
gcd_by zero a (suc b) le = absurd (omega arith)
gcd_by (suc n) a (suc b) le = let rest = gcd_by n (suc b) (a % suc b) (grind arith) in (rest.0, IsGcd-from_mod a (suc b) rest.0 rest.1)

pub ratio_of : (n d : ℕ) → 0 < d → (r : Ratio) × IsFraction r n d
ratio_of n d some =
    let divisor = gcd_by d n d (omega arith) in
    let low = lowest_quotients n d divisor.0 some divisor.1 in
    (record { num = n / divisor.0; den = d / divisor.0; positive = low.positive; lowest = ∣ low.lowest ∣₁ }, low.same)
