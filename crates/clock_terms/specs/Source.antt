-- The clocks that constructors give. MLS 3.6, chapter 16, "Clock Constructors".
use Rattle.std.specs.Prelude.{ℕ, ◌+◌, List, [], ◌∷◌, Some, None}
use Rattle.flat_model.specs.declared.clock.ClockExpr.{ClockExpr}
use Rattle.flat_model.specs.declared.clock.ClockExpr.TheOpen.{ClockExpr-F}
use Rattle.flat_model.specs.declared.clock.ClockExpr.TheFolds.{fold-ClockExpr}
use Rattle.clock_terms.specs.declared.data.Constructor.{Constructor}
use Rattle.clock_terms.specs.Position.{Progression, whole}

-- what an expression for a clock is
pub data Kind : Type 0 where
  Inferred : Kind
  Every : (counter resolution : ℕ) → Kind
  AtSite : Kind
  Other : Kind

abbrev pub kind_of_level : ClockExpr-F Kind (Unit {0}) → Kind
kind_of_level (ClockExpr-F.Name x) = Other
kind_of_level ClockExpr-F.Inferred = Inferred
kind_of_level (ClockExpr-F.Rational n r) = Every n r
kind_of_level (ClockExpr-F.Event condition) = AtSite
kind_of_level (ClockExpr-F.«ClockExpr::Convert» by x) = Other

unfoldable pub kind_of : ClockExpr → Kind
kind_of = fold-ClockExpr Kind (Unit {0}) kind_of_level (λ _. tt)

-- a constructor that is not inferred, with the clock that it gives
pub record Source : Type 0 where
  pub node : ℕ
  pub equation : ℕ
  pub clock : Progression

abbrev pub every : ℕ → ℕ → Progression
every n r = record { site = None; period = record { more = n; less = 0; den = r }; start = whole 0 }

abbrev pub at_site : ℕ → Progression
at_site site = record { site = Some site; period = whole 1; start = whole 0 }

-- a constructor's source before those of the constructors behind it, which are told the number of the next site
abbrev pub source_before : Kind → Constructor → ℕ → (ℕ → List Source) → List Source
source_before (Every n r) k site rest = record { node = k.node; equation = k.equation; clock = every n r } ∷ rest site
source_before AtSite k site rest = record { node = k.node; equation = k.equation; clock = at_site site } ∷ rest (site + 1)
source_before _ k site rest = rest site

abbrev pub sources_from : ℕ → List Constructor → List Source
sources_from site [] = []
sources_from site (k ∷ ks) = source_before (kind_of k.clock) k site (λ next. sources_from next ks)

-- the constructors that are not inferred, in their order; event constructors alone are the sites
abbrev pub sources_of : List Constructor → List Source
sources_of constructors = sources_from 0 constructors
