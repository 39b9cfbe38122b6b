-- Common multiples of the denominators of clocks.
use Rattle.std.proofs.lemmas.Option.{same_Some, none-some}
use Rattle.std.proofs.Common.{◌≡◌, ◌∙◌, refl, ap, sym, subst, ℕ, zero, suc, ◌+◌, ◌<◌, ◌^◌, List, [], ◌∷◌, slice_get, Some, ⊎_elim, ◌⊎◌, arith}
use Rattle.std.specs.Int.{◌∣◌}
use Rattle.std.proofs.lemmas.Nat.Gcd.{dvd_trans}
use Rattle.rational_time.specs.declared.ratio.Ratio.{Ratio}
use Rattle.flat_model.specs.declared.clock.Clock.{Clock}
use Rattle.flat_model.specs.declared.clock.Clock.TheVariants.{Periodic, Event}
use Rattle.flat_model.specs.Runnable.{denominators}
use Rattle.tick_plan.specs.Making.{IsCommonOf, IsLeastMultiple}
use Rattle.rational_time.specs.Multiple.{IsLcm, HasMultipleBelow, AllDivide}

pub first_two : (a b d : ℕ) → HasMultipleBelow (2 ^ 40) (a ∷ b ∷ d ∷ []) → HasMultipleBelow (2 ^ 40) (a ∷ b ∷ [])
first_two a b d h = record { multiple = h.multiple; positive = h.positive; below = h.below; divided = (h.divided.0, (h.divided.1.0, tt)) }

pub with_third : (a b d m : ℕ) → HasMultipleBelow (2 ^ 40) (a ∷ b ∷ d ∷ []) → IsLcm a b m → HasMultipleBelow (2 ^ 40) (m ∷ d ∷ [])
with_third a b d m h lcm = record { multiple = h.multiple; positive = h.positive; below = h.below; divided = (lcm.least h.multiple h.divided.0 h.divided.1.0, (h.divided.1.1.0, tt)) }

pub three_lcm : (a b d m n : ℕ) → IsLcm a b m → IsLcm m d n → (a ∣ n) × (b ∣ n) × (d ∣ n) × ((k : ℕ) → a ∣ k → b ∣ k → d ∣ k → n ∣ k)
three_lcm a b d m n x y = (dvd_trans a x.first y.first, dvd_trans b x.second y.first, y.second, λ k p q r. y.least k (x.least k p q) r)

-- the units of one clock, with those of the clocks before it
pub within_of : (clocks : List Clock) (common : IsCommonOf clocks) (den i : ℕ) (period start : Ratio) → slice_get clocks i ≡ Some (Periodic period start)
    → ((m : ℕ) → ((j : ℕ) (p s : Ratio) → slice_get clocks j ≡ Some (Periodic p s) → (p.den ∣ m) × (s.den ∣ m)) → den ∣ m) → HasMultipleBelow (2 ^ 40) (den ∷ period.den ∷ start.den ∷ [])
within_of clocks common den i period start is least = let own = common.common.divided i period start is in
    record { multiple = common.den; positive = common.common.some; below = common.below; divided = (least common.den common.common.divided, (own.0, (own.1, tt))) }

last_or_before : (i j : ℕ) → i < j + 1 → (i ≡ j) ⊎ (i < j)
last_or_before i j lt = grind arith

pub divided_more : (clocks : List Clock) (at : ℕ) (clock : Clock) (den new : ℕ) → slice_get clocks at ≡ Some clock
    → ((i : ℕ) (p s : Ratio) → i < at → slice_get clocks i ≡ Some (Periodic p s) → (p.den ∣ den) × (s.den ∣ den)) → den ∣ new
    → ((p s : Ratio) → clock ≡ Periodic p s → (p.den ∣ new) × (s.den ∣ new))
    → (i : ℕ) (p s : Ratio) → i < at + 1 → slice_get clocks i ≡ Some (Periodic p s) → (p.den ∣ new) × (s.den ∣ new)
divided_more clocks at clock den new is before own parts i p s lt has = ⊎_elim
    (λ here. parts p s (same_Some _ _ (sym is ∙ ap (slice_get clocks) (sym here) ∙ has)))
    (λ old. let h = before i p s old has in (dvd_trans p.den h.0 own, dvd_trans s.den h.1 own))
    (last_or_before i at lt)

-- each clock in seconds divides m
abbrev pub AreDividing : List Clock → ℕ → Type 0
AreDividing clocks m = (i : ℕ) (p s : Ratio) → slice_get clocks i ≡ Some (Periodic p s) → (p.den ∣ m) × (s.den ∣ m)

pub dividing : (clocks : List Clock) (m : ℕ) → AllDivide (denominators clocks) m → AreDividing clocks m
dividing [] m all i p s is = absurd (none-some _ is)
dividing (Periodic q r ∷ clocks) m all zero p s is = let same = same_clock q r p s (same_Some _ _ is) in (subst (λ x. x.den ∣ m) same.0 all.0, subst (λ x. x.den ∣ m) same.1 all.1.0)
  where
    same_clock : (q r p s : Ratio) → Periodic q r ≡ Periodic p s → (q ≡ p) × (r ≡ s)
    same_clock q r p s is = (cc, cc)
dividing (Periodic q r ∷ clocks) m all (suc i) p s is = dividing clocks m all.1.1 i p s is
dividing (Event site factor shift ∷ clocks) m all zero p s is = absurd (other site factor shift p s (same_Some _ _ is))
  where
    other : (a b c : ℕ) (p s : Ratio) → Event a b c ≡ Periodic p s → ⊥
    other a b c p s is = cc
dividing (Event site factor shift ∷ clocks) m all (suc i) p s is = dividing clocks m all i p s is

pub all_divide : (clocks : List Clock) (m : ℕ) → AreDividing clocks m → AllDivide (denominators clocks) m
all_divide [] m each = tt
all_divide (Periodic p s ∷ clocks) m each = let own = each 0 p s refl in (own.0, (own.1, all_divide clocks m (λ i q r is. each (suc i) q r is)))
all_divide (Event site factor shift ∷ clocks) m each = all_divide clocks m (λ i q r is. each (suc i) q r is)

pub least_multiple : (clocks : List Clock) (m : ℕ) → 0 < m → AreDividing clocks m → ((n : ℕ) → AreDividing clocks n → m ∣ n) → IsLeastMultiple (denominators clocks) m
least_multiple clocks m some divided least = record { some = some; divided = all_divide clocks m divided; least = λ n all. least n (dividing clocks n all) }

-- clocks on one grid have a common denominator
pub common_of : (clocks : List Clock) → HasMultipleBelow (2 ^ 40) (denominators clocks) → IsCommonOf clocks
common_of clocks h = record { den = h.multiple; below = h.below; common = record { some = h.positive; divided = dividing clocks h.multiple h.divided } }
