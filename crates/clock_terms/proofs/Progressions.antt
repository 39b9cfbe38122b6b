-- Two progressions agree at every tick exactly where their periods and starts are the same.
use Rattle.std.proofs.Common.{◌∙◌, ℕ, ◌<◌, ◌↔◌, arith, mul-pos, refl, sym}
use Rattle.clock_terms.specs.Position.{Position, IsAt, part, Progression, IsProper, position, AreSame, TickTogether}
use Rattle.clock_terms.proofs.Fractions.{at_sym, at_trans, plus_at, part_at, plus_cancel, part_none, part_whole}

part_den : (k r : ℕ) (a : Position) → 0 < r → 0 < a.den → 0 < (part k r a).den
part_den k r a p q = mul-pos p q

pub position_den : (c : Progression) (k : ℕ) → IsProper c → 0 < (position c k).den
position_den c k p = mul-pos p.start (mul-pos (let e : 0 < 1 = omega arith in e) p.period)

-- the first tick is at the start
pub first_tick : (c : Progression) → IsAt (position c 0) c.start
first_tick c = part_none c.start c.period

pub same_refl : (a : Progression) → AreSame a a
same_refl a = record { site = refl; period = refl; start = refl }

pub same_sym : (a b : Progression) → AreSame a b → AreSame b a
same_sym a b h = record { site = sym h.site; period = at_sym a.period b.period h.period; start = at_sym a.start b.start h.start }

pub same_trans : (a b c : Progression) → IsProper b → AreSame a b → AreSame b c → AreSame a c
same_trans a b c p h k = record {
  site = h.site ∙ k.site;
  period = at_trans a.period b.period c.period p.period h.period k.period;
  start = at_trans a.start b.start c.start p.start h.start k.start;
}

pub same_ticks : (a b : Progression) → AreSame a b → (k : ℕ) → IsAt (position a k) (position b k)
same_ticks a b h k = plus_at a.start b.start (part k 1 a.period) (part k 1 b.period) h.start (part_at k 1 a.period b.period h.period)

-- the start is where tick 0 is
pub start_of_ticks : (a b : Progression) → IsProper a → IsProper b → IsAt (position a 0) (position b 0) → IsAt a.start b.start
start_of_ticks a b p q h =
    let up : IsAt a.start (position a 0) = at_sym (position a 0) a.start (first_tick a) in
    at_trans a.start (position b 0) b.start (position_den b 0 q)
    (at_trans a.start (position a 0) (position b 0) (position_den a 0 p) up h) (first_tick b)

-- and the period is how far tick 1 is from it
pub period_of_ticks : (a b : Progression) → IsProper a → IsProper b → IsAt a.start b.start → IsAt (position a 1) (position b 1) → IsAt a.period b.period
period_of_ticks a b p q s h =
    let one : IsAt (part 1 1 a.period) (part 1 1 b.period) = plus_cancel a.start b.start (part 1 1 a.period) (part 1 1 b.period) p.start q.start s h in
    let pos : 0 < (part 1 1 b.period).den = mul-pos (let e : 0 < 1 = omega arith in e) q.period in
    let posa : 0 < (part 1 1 a.period).den = mul-pos (let e : 0 < 1 = omega arith in e) p.period in
    at_trans a.period (part 1 1 b.period) b.period pos
    (at_trans a.period (part 1 1 a.period) (part 1 1 b.period) posa (at_sym (part 1 1 a.period) a.period (part_whole a.period)) one)
    (part_whole b.period)

pub ticks_same : (a b : Progression) → IsProper a → IsProper b → TickTogether a b → AreSame a b
ticks_same a b p q h =
    let start = start_of_ticks a b p q (h.ticks 0) in
    record { site = h.site; period = period_of_ticks a b p q start (h.ticks 1); start = start }

pub tick_law : (a b : Progression) → IsProper a → IsProper b → TickTogether a b ↔ AreSame a b
tick_law a b p q = (ticks_same a b p q, λ h. record { site = h.site; ticks = same_ticks a b h })
