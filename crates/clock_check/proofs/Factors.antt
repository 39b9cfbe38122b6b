-- Inferred factors.
use Rattle.std.proofs.Common.{◌≡◌, refl, subst, ℕ, zero, suc, ◌*◌, ◌/◌, ◌%◌, ◌<◌, ◌↔◌, ◌⊎◌, inl, inr, arith, IsTrue, nat_eq}
use Rattle.std.proofs.Math.Nat.{mul-mod_left}
use Rattle.std.proofs.lemmas.Bool.{eqb-true, eq-eqb}
use Rattle.clock_terms.specs.declared.data.Grid.{Grid}
use Rattle.clock_terms.proofs.Progressions.{same_sym, same_trans}
use Rattle.clock_spread.proofs.Limits.{grid_proper}
use Rattle.flat_model.specs.declared.clock.Conversion.TheVariants.{Sub, Super}
use Rattle.rational_time.specs.declared.ratio.Ratio.{Ratio}
use Rattle.clock_terms.specs.Position.{IsAt, at_ratio, part, Progression, IsProper, AreSame, progression_of_grid}
use Rattle.clock_terms.specs.Asked.{Asks, EachOf, SplitBy, converted}
use Rattle.clock_terms.proofs.Conversions.{asks_converted, converted_asks, converted_same, converted_proper, there_and_back}

pub divided : (num den : ℕ) → 0 < den → num % den ≡ 0 → num ≡ (num / den) * den
divided num den p e = omega (arith, e)

pub multiple_from : (a b : Ratio) → 0 < a.num * b.den → 0 < a.den * b.num → (a.num * b.den) % (a.den * b.num) ≡ 0 → (f : ℕ) × (0 < f) × IsAt (at_ratio a) (part f 1 (at_ratio b))
multiple_from a b p q e =
    let n = a.num * b.den in
    let d = a.den * b.num in
    let whole = divided n d q e in
    (n / d, above n d p whole, omega (arith, whole))
  where
    zero_or : (f d n : ℕ) → 0 < n → n ≡ f * d → 0 < f
    zero_or zero d n p e = absurd (omega (arith, p, e))
    zero_or (suc f) d n p e = omega arith

    above : (n d : ℕ) → 0 < n → n ≡ (n / d) * d → 0 < n / d
    above n d p e = zero_or (n / d) d n p e

pub multiple_to : (a b : Ratio) (f : ℕ) → IsAt (at_ratio a) (part f 1 (at_ratio b)) → (a.num * b.den) % (a.den * b.num) ≡ 0
multiple_to a b f e =
    let whole : a.num * b.den ≡ f * (a.den * b.num) = omega (arith, e) in
    rw whole (mul-mod_left f (a.den * b.num))

-- where one of the products is 0 a factor is there exactly where both are
none_multiple : (n d f : ℕ) → 0 < f → n ≡ f * d → (n ≡ 0) ⊎ (d ≡ 0) → n ≡ d
none_multiple n d zero p e h = absurd (omega (arith, p))
none_multiple n zero (suc f) p e h = omega (arith, e)
none_multiple n (suc d) (suc f) p e (inl z) = absurd (omega (arith, e, z))
none_multiple n (suc d) (suc f) p e (inr z) = absurd (omega (arith, z))

pub zero_law : (a b : Ratio) → (a.num * b.den ≡ 0) ⊎ (a.den * b.num ≡ 0) → (a.num * b.den ≡ a.den * b.num) ↔ ((f : ℕ) × (0 < f) × IsAt (at_ratio a) (part f 1 (at_ratio b)))
zero_law a b h = (
  λ e. (1, omega arith, omega (arith, e)),
  λ (f, pos, at). none_multiple (a.num * b.den) (a.den * b.num) f pos (omega (arith, at)) h,
)

pub rest_law : (a b : Ratio) → 0 < a.num * b.den → 0 < a.den * b.num → ((a.num * b.den) % (a.den * b.num) ≡ 0) ↔ ((f : ℕ) × (0 < f) × IsAt (at_ratio a) (part f 1 (at_ratio b)))
rest_law a b p q = (λ e. multiple_from a b p q e, λ (f, pos, at). multiple_to a b f at)

above_zero : (n : ℕ) → (n ≡ 0 → ⊥) → 0 < n
above_zero zero h = absurd (h refl)
above_zero (suc n) h = omega arith

pub multiple_law : (a b : Ratio) (w x y z : ℕ) → w ≡ a.num → x ≡ b.den → y ≡ a.den → z ≡ b.num → (w * x ≡ 0 → ⊥) → (y * z ≡ 0 → ⊥)
    → IsTrue (nat_eq (w * x % (y * z)) 0) ↔ ((f : ℕ) × (0 < f) × IsAt (at_ratio a) (part f 1 (at_ratio b)))
multiple_law a b w x y z e1 e2 e3 e4 p q =
    let some : 0 < a.num * b.den = subst (λ n. 0 < n * b.den) e1 (subst (λ n. 0 < w * n) e2 (above_zero (w * x) p)) in
    let more : 0 < a.den * b.num = subst (λ n. 0 < n * b.num) e3 (subst (λ n. 0 < y * n) e4 (above_zero (y * z) q)) in
    let law = rest_law a b some more in
    rw (e1, e2, e3, e4) (
      (λ t. law.0 (eqb-true (a.num * b.den % (a.den * b.num)) 0 t)),
      (λ h. eq-eqb (a.num * b.den % (a.den * b.num)) 0 (law.1 h)),
    )

-- an inferred factor is some whole factor
sub_from : (y u : Progression) (f : ℕ) → IsProper y → IsProper u → 0 < f → y.site ≡ u.site → EachOf f y u → (g : ℕ) × (0 < g) × AreSame y (converted (Sub g) u)
sub_from y u zero p q pos site each = absurd (omega (arith, pos))
sub_from y u (suc f) p q pos site each = (suc f, pos, asks_converted (Sub (suc f)) y u pos p q (site, each))

sub_to : (y u : Progression) (f : ℕ) → IsProper y → IsProper u → 0 < f → AreSame y (converted (Sub f) u) → Asks (Sub 0) y u
sub_to y u zero p q pos same = absurd (omega (arith, pos))
sub_to y u (suc f) p q pos same = let h = converted_asks (Sub (suc f)) y u pos p q same in (h.0, (suc f, pos, h.1))

pub inferred_sub : (y u : Progression) → IsProper y → IsProper u → Asks (Sub 0) y u ↔ ((f : ℕ) × (0 < f) × AreSame y (converted (Sub f) u))
inferred_sub y u p q = (λ (site, (f, pos, each)). sub_from y u f p q pos site each, λ (f, pos, same). sub_to y u f p q pos same)

super_from : (y u : Progression) (f : ℕ) → IsProper y → IsProper u → 0 < f → y.site ≡ u.site → SplitBy f y u → (g : ℕ) × (0 < g) × AreSame y (converted (Super g) u)
super_from y u zero p q pos site each = absurd (omega (arith, pos))
super_from y u (suc f) p q pos site each = (suc f, pos, asks_converted (Super (suc f)) y u pos p q (site, each))

super_to : (y u : Progression) (f : ℕ) → IsProper y → IsProper u → 0 < f → AreSame y (converted (Super f) u) → Asks (Super 0) y u
super_to y u zero p q pos same = absurd (omega (arith, pos))
super_to y u (suc f) p q pos same = let h = converted_asks (Super (suc f)) y u pos p q same in (h.0, (suc f, pos, h.1))

pub inferred_super : (y u : Progression) → IsProper y → IsProper u → Asks (Super 0) y u ↔ ((f : ℕ) × (0 < f) × AreSame y (converted (Super f) u))
inferred_super y u p q = (λ (site, (f, pos, each)). super_from y u f p q pos site each, λ (f, pos, same). super_to y u f p q pos same)

-- the faster clock by the factor is the slower one, and the slower one split by it the faster
sub_super : (f : ℕ) (y u : Progression) → IsProper y → IsProper u → 0 < f → AreSame y (converted (Sub f) u) → AreSame u (converted (Super f) y)
sub_super f y u p q pos h = same_sym (converted (Super f) y) u
    (same_trans (converted (Super f) y) (converted (Super f) (converted (Sub f) u)) u (converted_proper (Super f) (converted (Sub f) u) pos (converted_proper (Sub f) u pos q))
    (converted_same (Super f) y (converted (Sub f) u) h) (there_and_back (Sub f) u))

super_sub : (f : ℕ) (y u : Progression) → IsProper y → IsProper u → 0 < f → AreSame u (converted (Super f) y) → AreSame y (converted (Sub f) u)
super_sub f y u p q pos h = same_sym (converted (Sub f) u) y
    (same_trans (converted (Sub f) u) (converted (Sub f) (converted (Super f) y)) y (converted_proper (Sub f) (converted (Super f) y) pos (converted_proper (Super f) y pos p))
    (converted_same (Sub f) u (converted (Super f) y) h) (there_and_back (Super f) y))

pub sub_as_super : (y u : Progression) → IsProper y → IsProper u → Asks (Sub 0) y u ↔ Asks (Super 0) u y
sub_as_super y u p q = (
  λ h. let (f, pos, same) = (inferred_sub y u p q).0 h in (inferred_super u y q p).1 (f, pos, sub_super f y u p q pos same),
  λ h. let (f, pos, same) = (inferred_super u y q p).0 h in (inferred_sub y u p q).1 (f, pos, super_sub f y u p q pos same),
)

-- where some factor makes the period of the one of that of the other, axis and start decide
pub factor_law : (slower faster : Grid) → (f : ℕ) × (0 < f) × IsAt (at_ratio slower.period) (part f 1 (at_ratio faster.period))
    → AreSame (progression_of_grid (record { site = slower.site; period = faster.period; start = slower.start; negative = slower.negative })) (progression_of_grid faster)
    ↔ Asks (Sub 0) (progression_of_grid slower) (progression_of_grid faster)
factor_law slower faster (f, pos, at) = (
  λ h. (inferred_sub (progression_of_grid slower) (progression_of_grid faster) (grid_proper slower) (grid_proper faster)).1
      (f, pos, record { site = h.site; period = at; start = h.start }),
  λ h. let (g, pos, same) = (inferred_sub (progression_of_grid slower) (progression_of_grid faster) (grid_proper slower) (grid_proper faster)).0 h in
      record { site = same.site; period = refl; start = same.start },
)

pub no_factor : (slower faster : Grid) → ((f : ℕ) × (0 < f) × IsAt (at_ratio slower.period) (part f 1 (at_ratio faster.period)) → ⊥)
    → Asks (Sub 0) (progression_of_grid slower) (progression_of_grid faster) → ⊥
no_factor slower faster none h =
    let (g, pos, same) = (inferred_sub (progression_of_grid slower) (progression_of_grid faster) (grid_proper slower) (grid_proper faster)).0 h in
    none (g, pos, same.period)
