-- Clocks for the classes of a model that meet all that it says of them. MLS 3.6, chapter 16, "Sub-Clock Inferencing".
use Rattle.std.specs.Prelude.{◌≡◌, ℕ, ◌<◌, Bool, true, false, List, Option, Some, None, All}
use Rattle.clock_terms.specs.declared.data.Relation.{Relation}
use Rattle.clock_terms.specs.Position.{Position, IsAt, IsNotNegative, whole, Progression, IsProper, position, TickTogether}
use Rattle.clock_terms.specs.Asked.{Asks}
use Rattle.clock_terms.specs.Source.{Source}

-- what is said of the clocks of classes
pub record Said : Type 0 where
  pub class_of : ℕ → ℕ
  pub clocked : ℕ → Bool
  pub sources : List Source
  pub relations : List Relation

-- the clock of each class, where it has one
abbrev pub Held : Type 0
Held = ℕ → Option Progression

-- a clock that can be run: no position is below 0, and those on a site are whole
abbrev pub IsWhole : Position → Type 0
IsWhole a = (n : ℕ) × IsAt a (whole n)

abbrev pub IsOnItsAxis : Progression → Type 0
IsOnItsAxis c = on_axis c.site
  where
    on_axis : Option ℕ → Type 0
    on_axis None = Unit {0}
    on_axis (Some site) = ((f : ℕ) × (0 < f) × IsAt c.period (whole f)) × IsWhole c.start

pub record IsRunnable (c : Progression) : Type 0 where
  pub proper : IsProper c
  pub positive : (k : ℕ) → IsNotNegative (position c k)
  pub on_axis : IsOnItsAxis c

-- the constructor's class has a clock, with the constructor's axis and positions
abbrev pub SourceHolds : Said → Held → Source → Type 0
SourceHolds said held source = (p : Progression) × (held (said.class_of source.node) ≡ Some p) × TickTogether p source.clock

-- both classes have a clock, and what the conversion asks of them holds
abbrev pub RelationHolds : Said → Held → Relation → Type 0
RelationHolds said held relation = (y : Progression) × (u : Progression)
    × (held (said.class_of relation.result) ≡ Some y) × (held (said.class_of relation.argument) ≡ Some u) × Asks relation.by y u

-- a clock for each clocked class, with which all constructors and relations hold
pub record IsClocking (said : Said) (held : Held) : Type 0 where
  pub clocked : (c : ℕ) → said.clocked c ≡ true → (p : Progression) × (held c ≡ Some p) × IsRunnable p
  pub unclocked : (c : ℕ) → said.clocked c ≡ false → held c ≡ None
  pub sources : All (SourceHolds said held) said.sources
  pub relations : All (RelationHolds said held) said.relations
