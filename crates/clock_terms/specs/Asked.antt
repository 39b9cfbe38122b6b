-- What a conversion asks of the clocks of its result and of its argument. MLS 3.6, chapter 16, "Sub-Clock Conversion Operators".
use Rattle.std.specs.Prelude.{◌≡◌, ℕ, zero, suc, ◌+◌, ◌*◌, ◌<◌}
use Rattle.flat_model.specs.declared.clock.Conversion.{Conversion}
use Rattle.flat_model.specs.declared.clock.Conversion.TheVariants.{Sub, Super, Shift, Back, NoClock}
use Rattle.clock_terms.specs.Position.{Position, IsAt, plus, minus, part, Progression, position}

-- from tick i of the clock on, the part k/r of the way to the next tick
abbrev pub way : Progression → ℕ → ℕ → ℕ → Position
way u i k r = part k r (minus (position u (i + 1)) (position u i))

-- tick i of the result is tick f*i of the argument
abbrev pub EachOf : ℕ → Progression → Progression → Type 0
EachOf f y u = (i : ℕ) → IsAt (position y i) (position u (f * i))

-- each interval of the argument is split into f equal parts
abbrev pub SplitBy : ℕ → Progression → Progression → Type 0
SplitBy f y u = (i j : ℕ) → j < f → IsAt (position y (f * i + j)) (plus (position u i) (way u i j f))

abbrev pub LaterBy : ℕ → ℕ → Progression → Progression → Type 0
LaterBy k r y u = (i : ℕ) → IsAt (position y i) (plus (position u i) (way u i k r))

abbrev pub EarlierBy : ℕ → ℕ → Progression → Progression → Type 0
EarlierBy k r y u = (i : ℕ) → IsAt (position y i) (minus (position u i) (way u i k r))

-- what is asked of the positions; a factor of 0 stands for some whole factor
abbrev pub AsksOfTicks : Conversion → Progression → Progression → Type 0
AsksOfTicks (Sub zero) y u = (f : ℕ) × (0 < f) × EachOf f y u
AsksOfTicks (Sub (suc f)) y u = EachOf (suc f) y u
AsksOfTicks (Super zero) y u = (f : ℕ) × (0 < f) × SplitBy f y u
AsksOfTicks (Super (suc f)) y u = SplitBy (suc f) y u
AsksOfTicks (Shift k r) y u = LaterBy k r y u
AsksOfTicks (Back k r) y u = EarlierBy k r y u
AsksOfTicks NoClock y u = Unit {0}

-- the conversion asks this of the clock y of its equation and the clock u of its argument
abbrev pub Asks : Conversion → Progression → Progression → Type 0
Asks NoClock y u = Unit {0}
Asks by y u = (y.site ≡ u.site) × AsksOfTicks by y u

-- the factor is given, and the resolution is not 0
abbrev pub IsGiven : Conversion → Type 0
IsGiven (Sub f) = 0 < f
IsGiven (Super f) = 0 < f
IsGiven (Shift k r) = 0 < r
IsGiven (Back k r) = 0 < r
IsGiven NoClock = ⊥

-- the clock that a given conversion gives to its equation from that of its argument
abbrev pub converted : Conversion → Progression → Progression
converted (Sub f) u = record { site = u.site; period = part f 1 u.period; start = u.start }
converted (Super f) u = record { site = u.site; period = part 1 f u.period; start = u.start }
converted (Shift k r) u = record { site = u.site; period = u.period; start = plus u.start (part k r u.period) }
converted (Back k r) u = record { site = u.site; period = u.period; start = minus u.start (part k r u.period) }
converted NoClock u = u

-- the conversion from the result back to the argument
abbrev pub inverse : Conversion → Conversion
inverse (Sub f) = Super f
inverse (Super f) = Sub f
inverse (Shift k r) = Back k r
inverse (Back k r) = Shift k r
inverse NoClock = NoClock
