-- Series of whole numbers as clocks, and the grid of two clocks.
use Rattle.std.proofs.Common.{◌≡◌, sym, subst, ◌∙◌, ◌↔◌, ℕ, zero, suc, ◌+◌, ◌*◌, ◌^◌, Bool, List, [], ◌∷◌, Option, Some, None, IsTrue, arith}
use Rattle.std.specs.Prelude.{slice_get, All}
use Rattle.std.specs.Int.{◌∣◌}
use Rattle.std.proofs.lemmas.Nat.Gcd.{dvd_refl, le_of_dvd}
use Rattle.std.proofs.lemmas.Option.{same_Some, get_or_from_slice_get, slice_get_within}
use Rattle.rational_time.specs.declared.ratio.Ratio.{Ratio}
use Rattle.rational_time.specs.Fraction.{IsFraction, IsSameTick}
use Rattle.rational_time.specs.Multiple.{HasMultipleBelow, AllDivide}
use Rattle.rational_time.proofs.Fractions.{IsGcd-ratio}
use Rattle.flat_model.specs.declared.clock.Clock.{Clock}
use Rattle.flat_model.specs.declared.clock.Clock.TheVariants.{Periodic, Event}
use Rattle.flat_model.specs.declared.expression.Expr.{Expr}
use Rattle.flat_model.specs.Clocks.{ShareInstant}
use Rattle.flat_model.specs.Runnable.{CanRun, denominators}
use Rattle.flat_model.specs.Setting.{Setting}
use Rattle.flat_model.specs.Uses.{ClassesMeet}
use Rattle.eq_order.specs.private.Clocks.{Rises}

-- a fraction that is a whole number
pub record IsWhole (r : Ratio) (n : ℕ) : Type 0 where
  pub num : r.num ≡ n
  pub den : r.den ≡ 1
  pub divides : r.den ∣ 1

pub is_whole : (r : Ratio) (n : ℕ) → IsFraction r n 1 → IsWhole r n
is_whole r n e =
    let num : r.num ≡ r.den * n = omega (arith, e) in
    let divides : r.den ∣ 1 = (IsGcd-ratio r).2 r.den (∣ (n, num) ∣₁) (dvd_refl r.den) in
    let one : r.den ≡ 1 = omega (arith, le_of_dvd (omega arith) divides, r.positive) in
    let same : r.den * n ≡ n = subst (λ d. d * n ≡ n) (sym one) (omega arith) in
    record { num = num ∙ same; den = one; divides = divides }

pub whole_grid : (p s q r : Ratio) (f g h k : ℕ) → IsWhole p f → IsWhole s g → IsWhole q h → IsWhole r k
    → HasMultipleBelow (2 ^ 40) (p.den ∷ (s.den ∷ (q.den ∷ (r.den ∷ []))))
whole_grid p s q r f g h k a b c d = record {
  multiple = 1;
  positive = omega arith;
  below = omega arith;
  divided = (a.divides, (b.divides, (c.divides, (d.divides, tt))));
}

position : (pn pd sn sd d e f g i : ℕ) → pn ≡ f → pd ≡ 1 → sn ≡ g → sd ≡ 1 → d ≡ 1 → e ≡ 1 → (sn * pd + i * pn * sd) * (d * e) ≡ f * i + g
position pn pd sn sd d e f g i a b c h x y = rw (a, b, c, h, x, y) (omega arith)

-- ticks of clocks of whole positions lie at one instant where the positions are the same
pub series : (p s q r : Ratio) (f g h k : ℕ) (b : Bool) → IsWhole p f → IsWhole s g → IsWhole q h → IsWhole r k
    → IsTrue b ↔ ((i : ℕ) × (j : ℕ) × IsSameTick p s i q r j) → IsTrue b ↔ ((i : ℕ) × (j : ℕ) × (f * i + g ≡ h * j + k))
series p s q r f g h k b wp ws wq wr is = (
  λ t. let (i, j, e) = is.0 t in (i, j, sym (left i) ∙ (e ∙ right j)),
  λ (i, j, e). is.1 (i, j, left i ∙ (e ∙ sym (right j))),
)
  where
    left : (i : ℕ) → (s.num * p.den + i * p.num * s.den) * (r.den * q.den) ≡ f * i + g
    left i = position p.num p.den s.num s.den r.den q.den f g i wp.num wp.den ws.num ws.den wr.den wq.den

    right : (j : ℕ) → (r.num * q.den + j * q.num * r.den) * (s.den * p.den) ≡ h * j + k
    right j = position q.num q.den r.num r.den s.den p.den h k j wq.num wq.den wr.num wr.den ws.den wp.den

first_divides : (first : Clock) (rest : List Clock) (m : ℕ) → AllDivide (denominators (first ∷ rest)) m → AllDivide (denominators (first ∷ [])) m
first_divides (Periodic period start) rest m all = (all.0, (all.1.0, tt))
first_divides (Event site factor shift) rest m all = tt

later_divide : (first : Clock) (rest : List Clock) (m : ℕ) → AllDivide (denominators (first ∷ rest)) m → AllDivide (denominators rest) m
later_divide (Periodic period start) rest m all = all.1.1
later_divide (Event site factor shift) rest m all = all

divides_at : (clocks : List Clock) (a : ℕ) (p : Clock) (m : ℕ) → slice_get clocks a ≡ Some p → AllDivide (denominators clocks) m → AllDivide (denominators (p ∷ [])) m
divides_at [] a p m found all = cc
divides_at (first ∷ rest) zero p m found all = subst (λ c. AllDivide (denominators (c ∷ [])) m) (same_Some first p found) (first_divides first rest m all)
divides_at (first ∷ rest) (suc a) p m found all = divides_at rest a p m found (later_divide first rest m all)

pair_divides : (p q : Clock) (m : ℕ) → AllDivide (denominators (p ∷ [])) m → AllDivide (denominators (q ∷ [])) m → AllDivide (denominators (p ∷ (q ∷ []))) m
pair_divides (Periodic period start) q m first second = (first.0, (first.1.0, second))
pair_divides (Event site factor shift) q m first second = second

-- the grid of all clocks is one of each two of them
pub pair_grid : (clocks : List Clock) (a b : ℕ) (p q : Clock) (limit : ℕ) → slice_get clocks a ≡ Some p → slice_get clocks b ≡ Some q
    → HasMultipleBelow limit (denominators clocks) → HasMultipleBelow limit (denominators (p ∷ (q ∷ [])))
pair_grid clocks a b p q limit first second grid = record {
  multiple = grid.multiple;
  positive = grid.positive;
  below = grid.below;
  divided = pair_divides p q grid.multiple (divides_at clocks a p grid.multiple first grid.divided) (divides_at clocks b q grid.multiple second grid.divided);
}

can_rise : (sites : List Expr) (p : Clock) → CanRun sites p → Rises p
can_rise sites (Periodic period start) can = can.0
can_rise sites (Event site factor shift) can = can.1

pub rises_at : (sites : List Expr) (clocks : List Clock) (a : ℕ) (p : Clock) → slice_get clocks a ≡ Some p → All (CanRun sites) clocks → Rises p
rises_at sites clocks a p found each =
    can_rise sites p (subst (CanRun sites) (get_or_from_slice_get clocks a p p found) (each a p (slice_get_within clocks a p found)))

-- the clocks of two classes share an instant where those that stand there do
pub meet_at : (s : Setting) (a b : ℕ) (p q : Clock) (t : Bool) → slice_get s.clocking.clocks a ≡ Some p → slice_get s.clocking.clocks b ≡ Some q
    → IsTrue t ↔ ShareInstant p q → IsTrue t ↔ ClassesMeet s (Some a) (Some b)
meet_at s a b p q t first second is = (
  λ h. (p, q, first, second, is.0 h),
  λ (c, d, found, other, share). is.1 (subst (λ z. ShareInstant p z) (same_Some d q (sym other ∙ second)) (subst (λ z. ShareInstant z d) (same_Some c p (sym found ∙ first)) share)),
)

-- classes of which one has no clock do not meet
pub no_first : (s : Setting) (a : ℕ) (b : Option ℕ) → slice_get s.clocking.clocks a ≡ None → ClassesMeet s (Some a) b → ⊥
no_first s a b none (p, q, found, other, share) = cc (none, found)

pub no_second : (s : Setting) (a : Option ℕ) (b : ℕ) → slice_get s.clocking.clocks b ≡ None → ClassesMeet s a (Some b) → ⊥
no_second s a b none (p, q, found, other, share) = cc (none, other)
