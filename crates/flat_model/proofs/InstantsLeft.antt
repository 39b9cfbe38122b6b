-- The instants that are left are one list, and its first is the next.
use Rattle.std.proofs.Common.{◌≡◌, refl, sym, subst, ap, ap₂, ◌∙◌, ℕ, zero, suc, ◌*◌, ◌<◌, List, [], ◌∷◌, slice_get, Option, Some, None, arith}
use Rattle.std.proofs.Props.{props}
use Rattle.std.specs.Int.{IsGcd}
use Rattle.std.proofs.lemmas.Option.{none-some, same_Some}
use Rattle.rational_time.specs.declared.ratio.Ratio.{Ratio}
use Rattle.rational_time.specs.Fraction.{Same, Below, AtMost}
use Rattle.rational_time.proofs.Order.{cross_lt_le_trans, same_parts}
use Rattle.flat_model.specs.declared.clock.Clock.{Clock}
use Rattle.flat_model.specs.declared.clock.Moment.{Moment}
use Rattle.flat_model.specs.declared.clock.Moment.TheVariants.{Initial, At}
use Rattle.flat_model.specs.Moments.{IsRising}
use Rattle.flat_model.specs.NextInstant.{IsAfter, IsNext, NoneIsNext, AreLeft}

-- what is after a later instant is after an earlier moment
pub later_after : (given : Option Moment) (t u : Ratio) → IsAfter given t → Below t u → IsAfter given u
later_after None t u h k = tt
later_after (Some Initial) t u h k = tt
later_after (Some (At g)) t u h k = cross_lt_le_trans g.num g.den t.num t.den u.num u.den u.positive h (omega (arith, k))

-- ratios of the same parts are one
with_proofs : (a : Ratio) (q : 0 < a.den) (m : ∥ IsGcd a.num a.den 1 ∥₁) → a ≡ record { num = a.num; den = a.den; positive = q; lowest = m }
with_proofs a q m =
    let positive : IsProp (0 < a.den) = hlevel props in
    let lowest : IsProp (∥ IsGcd a.num a.den 1 ∥₁) = hlevel props in
    ap₂ (λ (x : 0 < a.den) (y : ∥ IsGcd a.num a.den 1 ∥₁). ratio_with a.num a.den x y) (positive a.positive q) (lowest a.lowest m)
  where
    ratio_with : (num den : ℕ) → 0 < den → ∥ IsGcd num den 1 ∥₁ → Ratio
    ratio_with num den x y = record { num = num; den = den; positive = x; lowest = y }

with_den : (a : Ratio) (den : ℕ) → a.den ≡ den → (q : 0 < den) (m : ∥ IsGcd a.num den 1 ∥₁) → a ≡ record { num = a.num; den = den; positive = q; lowest = m }
with_den a den d = subst (λ x. (q : 0 < x) (m : ∥ IsGcd a.num x 1 ∥₁) → a ≡ record { num = a.num; den = x; positive = q; lowest = m }) d (with_proofs a)

with_parts : (a : Ratio) (num den : ℕ) → a.num ≡ num → a.den ≡ den → (q : 0 < den) (m : ∥ IsGcd num den 1 ∥₁) → a ≡ record { num = num; den = den; positive = q; lowest = m }
with_parts a num den n d = subst (λ x. (q : 0 < den) (m : ∥ IsGcd x den 1 ∥₁) → a ≡ record { num = x; den = den; positive = q; lowest = m }) n (with_den a den d)

pub one_ratio : (a b : Ratio) → a.num ≡ b.num → a.den ≡ b.den → a ≡ b
one_ratio a b n d = with_parts a b.num b.den n d b.positive b.lowest

pub same_ratio : (a b : Ratio) → Same a b → a ≡ b
same_ratio a b h = let parts = same_parts a b h in one_ratio a b parts.0 parts.1

-- the first is before the others
rising_at : (ts : List Ratio) (t : Ratio) → IsRising (t ∷ ts) → (j : ℕ) (u : Ratio) → slice_get ts j ≡ Some u → Below t u
rising_at [] t up j u is = absurd (none-some u is)
rising_at (v ∷ ts) t up zero u is = subst (λ x. Below t x) (same_Some v u is) up.0
rising_at (v ∷ ts) t up (suc j) u is = let more = rising_at ts v up.1 j u is in cross_lt_le_trans t.num t.den v.num v.den u.num u.den u.positive up.0 (omega (arith, more))

rising_rest : (ts : List Ratio) (t : Ratio) → IsRising (t ∷ ts) → IsRising ts
rising_rest [] t up = tt
rising_rest (v ∷ ts) t up = up.1

module _ (clocks : List Clock) (times : List Ratio) (stop : Ratio) where
  pub head_next : (given : Option Moment) (t : Ratio) (ts : List Ratio) → AreLeft clocks times stop given (t ∷ ts) → IsNext clocks times stop given t
  head_next given t ts left = record {
    due = (left.each 0 t refl).0;
    later = (left.each 0 t refl).1;
    first = λ u due later. let at = left.all u due later in not_before u at.0 at.1 at.2 at.3;
  }
    where
      not_before : (u : Ratio) (j : ℕ) (v : Ratio) → slice_get (t ∷ ts) j ≡ Some v → Same u v → AtMost t u
      not_before u zero v is same = let here : t ≡ v = same_Some t v is in subst (λ x. AtMost x u) (sym here) (omega (arith, same))
      not_before u (suc j) v is same = let past : Below t v = rising_at ts t left.rising j v is in let lt : t.num * u.den < u.num * t.den = cross_lt_le_trans t.num t.den v.num v.den u.num u.den u.positive past (omega (arith, same)) in omega (arith, lt)

  pub rest_left : (given : Option Moment) (t : Ratio) (ts : List Ratio) → AreLeft clocks times stop given (t ∷ ts) → AreLeft clocks times stop (Some (At t)) ts
  rest_left given t ts left = record {
    rising = rising_rest ts t left.rising;
    each = λ j u is. ((left.each (suc j) u is).0, rising_at ts t left.rising j u is);
    all = λ u due later. let at = left.all u due (later_after given t u (left.each 0 t refl).1 later) in behind u later at.0 at.1 at.2 at.3;
  }
    where
      behind : (u : Ratio) → Below t u → (j : ℕ) (v : Ratio) → slice_get (t ∷ ts) j ≡ Some v → Same u v → (i : ℕ) × (w : Ratio) × (slice_get ts i ≡ Some w) × Same u w
      behind u past zero v is same = let here : t ≡ v = same_Some t v is in let bad : Same u t = subst (λ x. Same u x) (sym here) same in absurd (omega (arith, past, bad))
      behind u past (suc j) v is same = (j, v, is, same)

  same_next : (given : Option Moment) (t u : Ratio) → IsNext clocks times stop given t → IsNext clocks times stop given u → t ≡ u
  same_next given t u a b = same_ratio t u (let le = a.first u b.due b.later in let ge = b.first t a.due a.later in omega (arith, le, ge))

  -- the next is the first of those left
  pub next_first : (given : Option Moment) (t : Ratio) (ts : List Ratio) → AreLeft clocks times stop given ts → IsNext clocks times stop given t → (rest : List Ratio) × (ts ≡ t ∷ rest)
  next_first given t [] left next = let at = left.all t next.due next.later in absurd (none-some at.1 at.2)
  next_first given t (u ∷ ts) left next = (ts, ap (λ x. x ∷ ts) (same_next given u t (head_next given u ts left) next))

  pub none_left : (given : Option Moment) (ts : List Ratio) → AreLeft clocks times stop given ts → NoneIsNext clocks times stop given → ts ≡ []
  none_left given [] left none = refl
  none_left given (t ∷ ts) left none = absurd (none t (left.each 0 t refl).0 (left.each 0 t refl).1)

  -- there is only one list of those left
  pub one_left : (given : Option Moment) (xs ys : List Ratio) → AreLeft clocks times stop given xs → AreLeft clocks times stop given ys → xs ≡ ys
  one_left given [] ys a b = sym (none_left given ys b (λ u due later. let at = a.all u due later in none-some at.1 at.2))
  one_left given (x ∷ xs) ys a b = with_head (next_first given x ys b (head_next given x xs a)) (one_left (Some (At x)) xs)
    where
      with_head : ((rest : List Ratio) × (ys ≡ x ∷ rest)) → ((zs : List Ratio) → AreLeft clocks times stop (Some (At x)) xs → AreLeft clocks times stop (Some (At x)) zs → xs ≡ zs) → (x ∷ xs) ≡ ys
      with_head first more = ap (λ zs. x ∷ zs) (more first.0 (rest_left given x xs a) (rest_left given x first.0 (subst (AreLeft clocks times stop given) first.1 b))) ∙ sym first.1
