-- The clocks after all rounds, kept.
use Rattle.std.specs.Prelude.{◌≡◌, ℕ, ◌^◌, List, length, Option, Some, All}
use Rattle.clock_terms.specs.declared.data.Terms.{Terms}
use Rattle.clock_terms.specs.declared.data.Classes.{Classes}
use Rattle.clock_terms.specs.Position.{Progression, IsProper, IsTooFine}
use Rattle.clock_terms.specs.Source.{sources_of}
use Rattle.clock_spread.specs.declared.offers.Found.{Found}
use Rattle.clock_spread.specs.Found.{IsFineFound}
use Rattle.clock_spread.specs.Turn.{said_by, Settles}
use Rattle.sub_clock_solve.specs.private.Seeding.{start_of}

pub record IsSpread (terms : Terms) (classes : Classes) (found : List Found) (lost : Option ℕ) : Type 0 where
  pub same_length : length found ≡ length classes.clocked
  pub fine : All IsFineFound found
  pub proper : All (λ source. IsProper source.clock) (sources_of terms.constructors)
  pub fine_start : (c : ℕ) (p : Progression) → start_of classes.class_of classes.clocked (sources_of terms.constructors) c ≡ Some p → IsTooFine (2 ^ 40) p → ⊥
  pub settles : Settles (said_by classes.class_of classes.clocked terms.relations)
      (start_of classes.class_of classes.clocked (sources_of terms.constructors)) found lost
