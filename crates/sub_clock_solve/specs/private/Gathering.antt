-- The kept clocks, one after another.
use Rattle.std.specs.Prelude.{Bool, true, List, [], ◌∷◌, ◌++◌}
use Rattle.clock_terms.specs.declared.data.Grid.{Grid}
use Rattle.clock_spread.specs.declared.offers.Found.{Found}
use Rattle.clock_spread.specs.declared.offers.Found.TheVariants.{Kept}

abbrev pub kept_of : Bool → Found → List Grid
kept_of true (Kept g) = g ∷ []
kept_of clocked found = []

-- the clocks of the clocked classes, in their order
abbrev pub kept_grids : List Found → List Bool → List Grid
kept_grids [] clocked = []
kept_grids (found ∷ founds) [] = []
kept_grids (found ∷ founds) (c ∷ cs) = kept_of c found ++ kept_grids founds cs
