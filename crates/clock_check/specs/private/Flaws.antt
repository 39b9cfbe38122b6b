-- Starts, shifts and factors that no clock may have.
use Rattle.std.specs.Prelude.{◌≡◌, ℕ, Bool, List, Some}
use Rattle.clock_terms.specs.declared.data.Grid.{Grid}
use Rattle.clock_check.specs.declared.flaw.Flaw.{Flaw}
use Rattle.clock_check.specs.declared.flaw.Flaw.TheVariants.{Early, Shift, Factor}
use Rattle.clock_check.specs.private.Numbering.{grid_at}
use Rattle.clock_check.specs.Broken.{StartsEarly, HasNoWholeShift, HasNoWholeFactor}

abbrev pub HasFlaw : Flaw → Grid → Type 0
HasFlaw Early g = StartsEarly g
HasFlaw Shift g = HasNoWholeShift g
HasFlaw Factor g = HasNoWholeFactor g

abbrev pub IsFlawAt : Flaw → List Bool → List Grid → ℕ → Type 0
IsFlawAt flaw clocked grids c = (g : Grid) × (grid_at clocked grids c ≡ Some g) × HasFlaw flaw g
