-- What a given conversion asks holds exactly where the clock of the result is the one that it gives, and it goes back by its inverse.
use Rattle.std.proofs.Common.{◌≡◌, ◌∙◌, ℕ, zero, suc, ◌+◌, ◌*◌, ◌/◌, ◌%◌, ◌<◌, arith, mul-pos, refl, sym, subst}
use Rattle.flat_model.specs.declared.clock.Conversion.{Conversion}
use Rattle.flat_model.specs.declared.clock.Conversion.TheVariants.{Sub, Super, Shift, Back, NoClock}
use Rattle.clock_terms.specs.Position.{Position, IsAt, plus, minus, part, Progression, IsProper, position, AreSame}
use Rattle.clock_terms.specs.Asked.{way, AsksOfTicks, Asks, IsGiven, converted, inverse}
use Rattle.clock_terms.proofs.Fractions.{at_sym, at_trans, plus_at, minus_at, part_at, plus_swap, minus_swap, plus_assoc, step, part_of_part, split_parts, part_back, part_forth, plus_minus, minus_plus}
use Rattle.clock_terms.proofs.Progressions.{position_den, ticks_same, same_ticks, same_trans, same_sym}

one_positive : 0 < 1
one_positive = omega arith

pub converted_proper : (by : Conversion) (u : Progression) → IsGiven by → IsProper u → IsProper (converted by u)
converted_proper (Sub f) u g p = record { period = mul-pos one_positive p.period; start = p.start }
converted_proper (Super f) u g p = record { period = mul-pos g p.period; start = p.start }
converted_proper (Shift k r) u g p = record { period = p.period; start = mul-pos p.start (mul-pos g p.period) }
converted_proper (Back k r) u g p = record { period = p.period; start = mul-pos p.start (mul-pos g p.period) }
converted_proper NoClock u g p = absurd g

-- the way from a tick is a part of the period
way_is : (u : Progression) (i k r : ℕ) → IsAt (way u i k r) (part k r u.period)
way_is u i k r = part_at k r (minus (position u (i + 1)) (position u i)) u.period (step u.start u.period i)

-- where the ticks of each conversion lie
sub_ticks : (f : ℕ) (u : Progression) (i : ℕ) → IsAt (position u (f * i)) (position (converted (Sub f) u) i)
sub_ticks f u i = plus_at u.start u.start (part (f * i) 1 u.period) (part i 1 (part f 1 u.period)) refl (part_of_part i f u.period)

super_ticks : (f : ℕ) (u : Progression) (i j : ℕ) → 0 < f → IsProper u →
    IsAt (plus (position u i) (way u i j f)) (position (converted (Super f) u) (f * i + j))
super_ticks f u i j pos p =
    let a = part i 1 u.period in
    let b = part j f u.period in
    let c = part (f * i + j) 1 (part 1 f u.period) in
    let first : IsAt (plus (position u i) (way u i j f)) (plus (position u i) b) = plus_at (position u i) (position u i) (way u i j f) b refl (way_is u i j f) in
    let second : IsAt (plus (position u i) b) (plus u.start (plus a b)) = plus_assoc u.start a b in
    let third : IsAt (plus u.start (plus a b)) (plus u.start c) = plus_at u.start u.start (plus a b) c refl (split_parts i j f u.period) in
    let den : 0 < (plus (position u i) b).den = mul-pos (position_den u i p) (mul-pos pos p.period) in
    let den2 : 0 < (plus u.start (plus a b)).den = mul-pos p.start (mul-pos (mul-pos one_positive p.period) (mul-pos pos p.period)) in
    at_trans (plus (position u i) (way u i j f)) (plus (position u i) b) (plus u.start c) den first
    (at_trans (plus (position u i) b) (plus u.start (plus a b)) (plus u.start c) den2 second third)

shift_ticks : (k r : ℕ) (u : Progression) (i : ℕ) → 0 < r → IsProper u →
    IsAt (plus (position u i) (way u i k r)) (position (converted (Shift k r) u) i)
shift_ticks k r u i pos p =
    let b = part k r u.period in
    let den : 0 < (plus (position u i) b).den = mul-pos (position_den u i p) (mul-pos pos p.period) in
    at_trans (plus (position u i) (way u i k r)) (plus (position u i) b) (position (converted (Shift k r) u) i) den
    (plus_at (position u i) (position u i) (way u i k r) b refl (way_is u i k r))
    (plus_swap u.start (part i 1 u.period) b)

back_ticks : (k r : ℕ) (u : Progression) (i : ℕ) → 0 < r → IsProper u →
    IsAt (minus (position u i) (way u i k r)) (position (converted (Back k r) u) i)
back_ticks k r u i pos p =
    let b = part k r u.period in
    let den : 0 < (minus (position u i) b).den = mul-pos (position_den u i p) (mul-pos pos p.period) in
    at_trans (minus (position u i) (way u i k r)) (minus (position u i) b) (position (converted (Back k r) u) i) den
    (minus_at (position u i) (position u i) (way u i k r) b refl (way_is u i k r))
    (minus_swap u.start (part i 1 u.period) b)

-- an equation at each tick is one with what lies at the same position
along : (a b c : ℕ → Position) → ((i : ℕ) → 0 < (b i).den) → ((i : ℕ) → IsAt (b i) (c i)) → ((i : ℕ) → IsAt (a i) (b i)) → (i : ℕ) → IsAt (a i) (c i)
along a b c pos e h i = at_trans (a i) (b i) (c i) (pos i) (h i) (e i)

-- each number is one of the parts that a factor splits
split_at : (f n : ℕ) → 0 < f → (f * (n / f) + n % f ≡ n) × (n % f < f)
split_at f n pos = (omega arith, omega arith)

way_den : (u : Progression) (i k r : ℕ) → 0 < r → IsProper u → 0 < (way u i k r).den
way_den u i k r pos p = mul-pos pos (mul-pos (position_den u (i + 1) p) (position_den u i p))

asked_together : (by : Conversion) (y u : Progression) → IsGiven by → IsProper y → IsProper u → AsksOfTicks by y u → (k : ℕ) → IsAt (position y k) (position (converted by u) k)
asked_together (Sub zero) y u g p q h k = absurd (omega (arith, g))
asked_together (Sub (suc f)) y u g p q h k =
    at_trans (position y k) (position u (suc f * k)) (position (converted (Sub (suc f)) u) k) (position_den u (suc f * k) q) (h k) (sub_ticks (suc f) u k)
asked_together (Super zero) y u g p q h k = absurd (omega (arith, g))
asked_together (Super (suc f)) y u g p q h k =
    let s = split_at (suc f) k g in
    let i = k / suc f in
    let j = k % suc f in
    subst (λ n. IsAt (position y n) (position (converted (Super (suc f)) u) n)) s.0
    (at_trans (position y (suc f * i + j)) (plus (position u i) (way u i j (suc f))) (position (converted (Super (suc f)) u) (suc f * i + j))
    (mul-pos (position_den u i q) (way_den u i j (suc f) g q)) (h i j s.1) (super_ticks (suc f) u i j g q))
asked_together (Shift n r) y u g p q h k =
    at_trans (position y k) (plus (position u k) (way u k n r)) (position (converted (Shift n r) u) k)
    (mul-pos (position_den u k q) (way_den u k n r g q)) (h k) (shift_ticks n r u k g q)
asked_together (Back n r) y u g p q h k =
    at_trans (position y k) (minus (position u k) (way u k n r)) (position (converted (Back n r) u) k)
    (mul-pos (position_den u k q) (way_den u k n r g q)) (h k) (back_ticks n r u k g q)
asked_together NoClock y u g p q h k = absurd g

together_asked : (by : Conversion) (y u : Progression) → IsGiven by → IsProper y → IsProper u → ((k : ℕ) → IsAt (position y k) (position (converted by u) k)) → AsksOfTicks by y u
together_asked (Sub zero) y u g p q h = absurd (omega (arith, g))
together_asked (Sub (suc f)) y u g p q h = λ k.
    at_trans (position y k) (position (converted (Sub (suc f)) u) k) (position u (suc f * k)) (position_den (converted (Sub (suc f)) u) k (converted_proper (Sub (suc f)) u g q)) (h k)
    (at_sym (position u (suc f * k)) (position (converted (Sub (suc f)) u) k) (sub_ticks (suc f) u k))
together_asked (Super zero) y u g p q h = absurd (omega (arith, g))
together_asked (Super (suc f)) y u g p q h = λ i j small.
    at_trans (position y (suc f * i + j)) (position (converted (Super (suc f)) u) (suc f * i + j)) (plus (position u i) (way u i j (suc f)))
    (position_den (converted (Super (suc f)) u) (suc f * i + j) (converted_proper (Super (suc f)) u g q)) (h (suc f * i + j))
    (at_sym (plus (position u i) (way u i j (suc f))) (position (converted (Super (suc f)) u) (suc f * i + j)) (super_ticks (suc f) u i j g q))
together_asked (Shift n r) y u g p q h = λ k.
    at_trans (position y k) (position (converted (Shift n r) u) k) (plus (position u k) (way u k n r)) (position_den (converted (Shift n r) u) k (converted_proper (Shift n r) u g q)) (h k)
    (at_sym (plus (position u k) (way u k n r)) (position (converted (Shift n r) u) k) (shift_ticks n r u k g q))
together_asked (Back n r) y u g p q h = λ k.
    at_trans (position y k) (position (converted (Back n r) u) k) (minus (position u k) (way u k n r)) (position_den (converted (Back n r) u) k (converted_proper (Back n r) u g q)) (h k)
    (at_sym (minus (position u k) (way u k n r)) (position (converted (Back n r) u) k) (back_ticks n r u k g q))
together_asked NoClock y u g p q h = absurd g

site_kept : (by : Conversion) (u : Progression) → (converted by u).site ≡ u.site
site_kept (Sub f) u = refl
site_kept (Super f) u = refl
site_kept (Shift k r) u = refl
site_kept (Back k r) u = refl
site_kept NoClock u = refl

asks_parts : (by : Conversion) (y u : Progression) → IsGiven by → Asks by y u → (y.site ≡ u.site) × AsksOfTicks by y u
asks_parts (Sub f) y u g h = h
asks_parts (Super f) y u g h = h
asks_parts (Shift k r) y u g h = h
asks_parts (Back k r) y u g h = h
asks_parts NoClock y u g h = absurd g

parts_ask : (by : Conversion) (y u : Progression) → IsGiven by → (y.site ≡ u.site) × AsksOfTicks by y u → Asks by y u
parts_ask (Sub f) y u g h = h
parts_ask (Super f) y u g h = h
parts_ask (Shift k r) y u g h = h
parts_ask (Back k r) y u g h = h
parts_ask NoClock y u g h = absurd g

-- a given conversion asks of the result to be just the clock that it gives
pub asks_converted : (by : Conversion) (y u : Progression) → IsGiven by → IsProper y → IsProper u → Asks by y u → AreSame y (converted by u)
asks_converted by y u g p q h =
    let parts = asks_parts by y u g h in
    ticks_same y (converted by u) p (converted_proper by u g q) (record {
      site = parts.0 ∙ sym (site_kept by u);
      ticks = asked_together by y u g p q parts.1;
    })

pub converted_asks : (by : Conversion) (y u : Progression) → IsGiven by → IsProper y → IsProper u → AreSame y (converted by u) → Asks by y u
converted_asks by y u g p q h = parts_ask by y u g (h.site ∙ site_kept by u, together_asked by y u g p q (same_ticks y (converted by u) h))

-- one clock is converted to one clock
pub converted_same : (by : Conversion) (u v : Progression) → AreSame u v → AreSame (converted by u) (converted by v)
converted_same (Sub f) u v h = record { site = h.site; period = part_at f 1 u.period v.period h.period; start = h.start }
converted_same (Super f) u v h = record { site = h.site; period = part_at 1 f u.period v.period h.period; start = h.start }
converted_same (Shift k r) u v h = record { site = h.site; period = h.period; start = plus_at u.start v.start (part k r u.period) (part k r v.period) h.start (part_at k r u.period v.period h.period) }
converted_same (Back k r) u v h = record { site = h.site; period = h.period; start = minus_at u.start v.start (part k r u.period) (part k r v.period) h.start (part_at k r u.period v.period h.period) }
converted_same NoClock u v h = h

pub inverse_given : (by : Conversion) → IsGiven by → IsGiven (inverse by)
inverse_given (Sub f) g = g
inverse_given (Super f) g = g
inverse_given (Shift k r) g = g
inverse_given (Back k r) g = g
inverse_given NoClock g = g

-- there and back is the same clock
pub there_and_back : (by : Conversion) (u : Progression) → AreSame (converted (inverse by) (converted by u)) u
there_and_back (Sub f) u = record { site = refl; period = part_back f u.period; start = refl }
there_and_back (Super f) u = record { site = refl; period = part_forth f u.period; start = refl }
there_and_back (Shift k r) u = record { site = refl; period = refl; start = plus_minus u.start (part k r u.period) }
there_and_back (Back k r) u = record { site = refl; period = refl; start = minus_plus u.start (part k r u.period) }
there_and_back NoClock u = record { site = refl; period = refl; start = refl }

-- a given conversion asks of the argument to be just the clock that its inverse gives
pub asks_back : (by : Conversion) (y u : Progression) → IsGiven by → IsProper y → IsProper u → Asks by y u → AreSame u (converted (inverse by) y)
asks_back by y u g p q h =
    let same = asks_converted by y u g p q h in
    let proper = converted_proper (inverse by) (converted by u) (inverse_given by g) (converted_proper by u g q) in
    let over = converted_same (inverse by) y (converted by u) same in
    same_sym (converted (inverse by) y) u
    (same_trans (converted (inverse by) y) (converted (inverse by) (converted by u)) u proper over (there_and_back by u))
