-- Two sites of which the first was noted or not, at an instant.
use Rattle.std.proofs.Common.{◌≡◌, refl, ap, ℕ, Bool, true, false, List, [], ◌∷◌, Some, length, map, slice_get, slice_set, if◌then◌else◌, arith}
use Rattle.rational_time.specs.declared.ratio.Ratio.{Ratio}
use Rattle.flat_model.specs.declared.clock.Moment.TheVariants.{At}
use Rattle.tick_plan.specs.Plans.{Planned, CanRise, after_rise}

-- a site is noted where it rises
abbrev pub maybe_risen : Bool → Planned → ℕ → Planned
maybe_risen rises plan site = if rises then after_rise plan site else plan

module _ (plan : Planned) (at : Ratio) (given : plan.given ≡ Some (At at)) (fresh : plan.noted ≡ false ∷ (false ∷ [])) where
  pub first_can : CanRise plan 0
  first_can = record { at = at; given = given; fresh = ap (λ noted. slice_get noted 0) fresh }

  pub second_can : (rises : Bool) → CanRise (maybe_risen rises plan 0) 1
  second_can true = record { at = at; given = given; fresh = ap (λ noted. slice_get (slice_set noted 0 true) 1) fresh }
  second_can false = record { at = at; given = given; fresh = ap (λ noted. slice_get noted 1) fresh }

  pub two_left : (first second : Bool) → length (maybe_risen second (maybe_risen first plan 0) 1).noted ≡ 2
  two_left true true = ap (λ noted. length (slice_set (slice_set noted 0 true) 1 true)) fresh
  two_left true false = ap (λ noted. length (slice_set noted 0 true)) fresh
  two_left false true = ap (λ noted. length (slice_set noted 1 true)) fresh
  two_left false false = ap length fresh

-- after a moment neither of two sites is noted
pub none_noted : (noted : List Bool) → length noted ≡ 2 → map (λ b. false) noted ≡ false ∷ (false ∷ [])
none_noted [] two = absurd (omega (arith, two))
none_noted (a ∷ []) two = absurd (omega (arith, two))
none_noted (a ∷ (b ∷ [])) two = refl
none_noted (a ∷ (b ∷ (c ∷ rest))) two = absurd (omega (arith, two))
