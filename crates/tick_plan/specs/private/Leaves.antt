-- The leaves of a tree of clocks: one for all classes of one clock.
use Rattle.std.specs.Prelude.{◌≡◌, ℕ, List, get_or}
use Rattle.rational_time.specs.declared.ratio.Ratio.{Ratio}
use Rattle.flat_model.specs.declared.clock.Clock.{Clock}
use Rattle.tick_plan.specs.declared.leaves.Leaf.{Leaf}
use Rattle.tick_plan.specs.private.Course.{IsPeriodic}

-- the start and the period of the clock of this number
abbrev pub leaf_at : List ℕ → List ℕ → ℕ → Leaf
leaf_at firsts steps i = record { first = get_or firsts i 0; step = get_or steps i 0 }

-- a leaf is the start and the period of some clock in seconds
pub record IsLeafOf (clocks : List Clock) (firsts steps : List ℕ) (leaf : Leaf) : Type 0 where
  pub clock : ℕ
  pub period : Ratio
  pub start : Ratio
  pub is : IsPeriodic clocks clock period start
  pub leaf_is : leaf ≡ leaf_at firsts steps clock
