-- The rules that one clock may break.
use Rattle.std.specs.Prelude.{◌≡◌, ◌≢◌, ◌⊎◌, true, None}
use Rattle.clock_terms.specs.declared.data.Grid.{Grid}

-- C6: a clock in seconds that starts before 0
abbrev pub StartsEarly : Grid → Type 0
StartsEarly g = (g.site ≡ None) × (g.negative ≡ true)

-- C8: a clock on the risings of a site whose shift is below 0 or not whole
abbrev pub HasNoWholeShift : Grid → Type 0
HasNoWholeShift g = (g.site ≢ None) × ((g.negative ≡ true) ⊎ (g.start.den ≢ 1))

-- C9: one whose factor is not whole
abbrev pub HasNoWholeFactor : Grid → Type 0
HasNoWholeFactor g = (g.site ≢ None) × (g.period.den ≢ 1)
