-- The clocks of round 0.
use Rattle.std.specs.Prelude.{ℕ, Bool, true, List}
use Rattle.clock_terms.specs.declared.data.Grid.{Grid}
use Rattle.clock_terms.specs.Source.{Source}
use Rattle.clock_terms.specs.Clocking.{Held}
use Rattle.clock_spread.specs.declared.offers.Found.{Found}
use Rattle.clock_spread.specs.declared.offers.Found.TheVariants.{Not, Kept}
use Rattle.clock_spread.specs.Found.{class_in}
use Rattle.clock_spread.specs.Queue.{marked}
use Rattle.clock_spread.specs.Rounds.{if_clocked, seeded}

-- a clocked class without a clock takes this one
abbrev pub seeded_at : Bool → Found → Grid → Found
seeded_at true Not g = Kept g
seeded_at clocked found g = found

-- each clocked class has the clock of its first constructor
abbrev pub start_of : List ℕ → List Bool → List Source → Held
start_of class_of clocked sources c = if_clocked (marked clocked c) (seeded (class_in class_of) sources c)
