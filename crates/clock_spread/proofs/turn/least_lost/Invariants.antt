use Rattle.std.proofs.Common.{◌≡◌, take}
use Rattle.clock_spread.specs.declared.offers.Found.TheVariants.{Lost}
use Rattle.clock_spread.specs.Found.{found_of}
use Rattle.clock_spread.specs.Least.{IsLeastOf, IsNumberIn}
use Rattle.clock_spread.proofs.turn.least_lost.Given as goal

abbrev pub invariant-loop-class : goal.invariant-loop-class
invariant-loop-class l = IsLeastOf (IsNumberIn (λ c. c) (λ c. found_of l.fn.found c ≡ Lost) (take l.class-index l.fn.next)) l.least
