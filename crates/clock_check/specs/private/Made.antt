-- The parts of a clocking, as they are made.
use Rattle.std.specs.Prelude.{◌≡◌, ℕ, true, List, length, Option, Some, slice_get, slice_index_or, count_by, false, take}
use Rattle.flat_model.specs.declared.clock.Clocking.{Clocking}
use Rattle.flat_model.specs.declared.model.FlatModel.{FlatModel}
use Rattle.clock_terms.specs.declared.data.Terms.{Terms}
use Rattle.clock_terms.specs.declared.data.Classes.{Classes}
use Rattle.clock_terms.specs.declared.data.Grid.{Grid}
use Rattle.clock_check.specs.private.Making.{node_numbers, AreClocksOf, AreNumbersOfNames}
use Rattle.clock_check.specs.ClockingOf.{AreSites}

pub record IsMade (model : FlatModel) (terms : Terms) (classes : Classes) (grids : List Grid) (numbers : List (Option ℕ)) (clocking : Clocking) : Type 0 where
  pub names : AreNumbersOfNames model.names classes.class_of numbers (length model.names) clocking.of_name
  pub equations : clocking.of_equation ≡ node_numbers classes.class_of numbers (length model.names) terms.nodes
  pub partition_count : length clocking.partitions ≡ count_by (λ b. b) classes.clocked
  pub partitions : (c : ℕ) → slice_index_or classes.clocked c false ≡ true
      → slice_get clocking.partitions (count_by (λ b. b) (take c classes.clocked)) ≡ Some (slice_index_or classes.partition c 0)
  pub clocks : AreClocksOf grids clocking.clocks
  pub sites : AreSites terms.constructors clocking.sites
