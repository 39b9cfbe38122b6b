-- The fractions of the worked models, in lowest terms.
use Rattle.std.specs.Prelude.{ℕ}
use Rattle.std.proofs.Common.{lit<}
use Rattle.std.proofs.Math.Nat.{one-dvd, dvd-sub}
use Rattle.rational_time.specs.declared.ratio.Ratio.{Ratio}

-- n seconds
abbrev pub whole : ℕ → Ratio
whole n = record { num = n; den = 1; positive = lit< tt; lowest = ∣ (one-dvd n, one-dvd 1, λ d a b. b) ∣₁ }

abbrev pub half : Ratio
half = record { num = 1; den = 2; positive = lit< tt; lowest = ∣ (one-dvd 1, one-dvd 2, λ d a b. a) ∣₁ }

abbrev pub third : Ratio
third = record { num = 1; den = 3; positive = lit< tt; lowest = ∣ (one-dvd 1, one-dvd 3, λ d a b. a) ∣₁ }

abbrev pub two_thirds : Ratio
two_thirds = record { num = 2; den = 3; positive = lit< tt; lowest = ∣ (one-dvd 2, one-dvd 3, λ d a b. dvd-sub d b a) ∣₁ }

abbrev pub three_halves : Ratio
three_halves = record { num = 3; den = 2; positive = lit< tt; lowest = ∣ (one-dvd 3, one-dvd 2, λ d a b. dvd-sub d a b) ∣₁ }
