-- The clocking of a model. MLS 3.6, chapter 16, "Sub-Clock Inferencing"; the limits are this project's own.
use Rattle.std.specs.Prelude.{◌≡◌, ℕ, true, List, [], ◌∷◌, length, Option, Some, None, slice_get, option_map, count_by, if◌then◌else◌}
use Rattle.flat_model.specs.declared.clock.Clock.{Clock}
use Rattle.flat_model.specs.declared.clock.Clocking.{Clocking}
use Rattle.flat_model.specs.declared.clock.ClockExpr.{ClockExpr}
use Rattle.flat_model.specs.declared.clock.ClockExpr.TheVariants as clock
use Rattle.flat_model.specs.declared.expression.Expr.{Expr}
use Rattle.flat_model.specs.declared.model.FlatModel.{FlatModel}
use Rattle.flat_model.specs.declared.model.FlatName.{FlatName}
use Rattle.flat_model.specs.Runnable.{AreClocks}
use Rattle.clock_terms.specs.declared.data.Terms.{Terms}
use Rattle.clock_terms.specs.declared.data.Classes.{Classes}
use Rattle.clock_terms.specs.declared.data.Constructor.{Constructor}
use Rattle.clock_terms.specs.Position.{progression_of}
use Rattle.clock_terms.specs.Source.{Kind, AtSite, kind_of}
use Rattle.clock_terms.specs.Clocking.{Held, IsClocking}
use Rattle.clock_terms.specs.Classing.{class_in, is_clocked, partition_in}
use Rattle.clock_terms.specs.Nodes.{Node}
use Rattle.clock_terms.specs.Said.{IsNode, numbered, IsNamed}
use Rattle.sub_clock_solve.specs.Solving.{said_of, place_of}

-- the number of a class among the clocked ones; none where it is unclocked
abbrev pub number_in : Classes → ℕ → Option ℕ
number_in classes c = if is_clocked classes c then Some (place_of classes c) else None

-- the class of a name: an input is in none
abbrev pub class_of_name : Classes → ℕ → FlatName → Option ℕ
class_of_name classes x name = if name.input then None else number_in classes (class_in classes x)

-- the clocks of the classes
abbrev pub held_in : Classes → List Clock → Held
held_in classes clocks c = if is_clocked classes c then option_map progression_of (slice_get clocks (place_of classes c)) else None

-- a constructor's condition before those of the constructors behind it
abbrev pub sites_before : Kind → ClockExpr → (List Expr → Type 0) → List Expr → Type 0
sites_before AtSite given Rest sites = (condition : Expr) × (rest : List Expr) × (given ≡ clock.Event condition) × (sites ≡ condition ∷ rest) × Rest rest
sites_before _ given Rest sites = Rest sites

-- the conditions of event constructors, in their order
abbrev pub AreSites : List Constructor → List Expr → Type 0
AreSites [] sites = sites ≡ []
AreSites (k ∷ ks) sites = sites_before (kind_of k.clock) k.clock (AreSites ks) sites

-- the clocked classes of names and equations with their clocks, base partitions and sites: all constructors and relations
-- hold, no position is below 0, factors and shifts are whole, no period is 0, and the parts are below the limits
pub record IsClockingOf (model : FlatModel) (terms : Terms) (classes : Classes) (clocking : Clocking) : Type 0 where
  pub name_count : length clocking.of_name ≡ length model.names
  pub names : (x : ℕ) (name : FlatName) → IsNamed model x name → slice_get clocking.of_name x ≡ Some (class_of_name classes x name)
  pub equation_count : length clocking.of_equation ≡ length model.equations
  pub equations : (j : ℕ) (node : Node) → IsNode model j node → node.cause ≡ None
      → slice_get clocking.of_equation node.equation ≡ Some (number_in classes (class_in classes (numbered model j)))
  pub partition_count : length clocking.partitions ≡ count_by (λ b. b) classes.clocked
  pub partitions : (c : ℕ) → is_clocked classes c ≡ true → slice_get clocking.partitions (place_of classes c) ≡ Some (partition_in classes c)
  pub clock_count : length clocking.clocks ≡ count_by (λ b. b) classes.clocked
  pub sites : AreSites terms.constructors clocking.sites
  pub clocks : IsClocking (said_of terms classes) (held_in classes clocking.clocks)
  pub limits : AreClocks clocking
