-- What holds of the terms and the classes of each model.
use Rattle.std.specs.Prelude.{◌≡◌, ℕ, ◌<◌, ◌⊎◌, length, slice_index_or, All}
use Rattle.flat_model.specs.declared.clock.ClockExpr.{ClockExpr}
use Rattle.clock_terms.specs.declared.data.Terms.{Terms}
use Rattle.clock_terms.specs.declared.data.Classes.{Classes}
use Rattle.clock_terms.specs.Source.{Kind, Every, kind_of}
use Rattle.clock_spread.specs.Found.{HasEnds}
use Rattle.flat_model.specs.Counters.{counter_limit}

-- the numbers of a constructor in seconds are from 1 to 2^31-1
abbrev pub IsGivenKind : Kind → Type 0
IsGivenKind (Every n r) = (0 < n) × (n < counter_limit) × (0 < r) × (r < counter_limit)
IsGivenKind _ = Unit {0}

abbrev pub IsGivenClock : ClockExpr → Type 0
IsGivenClock clock = IsGivenKind (kind_of clock)

-- a name or node has a class
pub record HasClass (classes : Classes) (x : ℕ) : Type 0 where
  pub within : x < length classes.class_of
  pub class : slice_index_or classes.class_of x 0 < length classes.clocked

-- each name or node that the terms name has a class, an entry without a class is 0, and the numbers of constructors are within their limits
pub record FitTogether (terms : Terms) (classes : Classes) : Type 0 where
  pub nodes : All (λ constructor. HasClass classes constructor.node) terms.constructors
  pub ends : All (λ relation. HasClass classes relation.result × HasClass classes relation.argument) terms.relations
  pub entries : All (λ c. (c < length classes.clocked) ⊎ (c ≡ 0)) classes.class_of
  pub clocks : All (λ constructor. IsGivenClock constructor.clock) terms.constructors

-- the same where there are classes at all, so that each entry is one
pub record HaveClasses (terms : Terms) (classes : Classes) : Type 0 where
  pub nodes : All (λ constructor. constructor.node < length classes.class_of) terms.constructors
  pub ends : All (HasEnds classes.class_of) terms.relations
  pub class_of : All (λ c. c < length classes.clocked) classes.class_of
  pub clocks : All (λ constructor. IsGivenClock constructor.clock) terms.constructors
