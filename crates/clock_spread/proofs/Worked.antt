-- A worked model: class 0 ticks each second, class 1 is each third tick of it, and class 0 is class 2 later by 1/2 of its interval.
use Rattle.std.proofs.Common.{◌≡◌, refl, true, [], ◌∷◌, Some, None}
use Rattle.flat_model.specs.declared.clock.Conversion.TheVariants.{Sub, Shift}
use Rattle.clock_terms.specs.Position.{whole}
use Rattle.clock_terms.specs.Source.{every}
use Rattle.clock_terms.specs.Clocking.{Said}
use Rattle.clock_spread.specs.Rounds.{after_round}

abbrev said : Said
said = record {
  class_of = λ x. x;
  clocked = λ c. true;
  sources = record { node = 0; equation = 0; clock = every 1 1 } ∷ [];
  relations = record { result = 1; argument = 0; equation = 1; by = Sub 3 } ∷ record { result = 0; argument = 2; equation = 2; by = Shift 1 2 } ∷ [];
}

nothing_yet : after_round said 0 1 ≡ None
nothing_yet = refl

each_third : after_round said 1 1 ≡ Some (record { site = None; period = record { more = 3; less = 0; den = 1 }; start = whole 0 })
each_third = refl

-- half a second before 0: (0 - 1) / 2
half_before : after_round said 1 2 ≡ Some (record { site = None; period = record { more = 1; less = 0; den = 1 }; start = record { more = 0; less = 1; den = 2 } })
half_before = refl
