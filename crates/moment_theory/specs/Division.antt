-- How the uses of a moment are divided, and in which order the divisions are taken. This project's own.
use Rattle.std.specs.Prelude.{◌≡◌, ℕ, zero, suc, ◌<◌, ◌⊎◌, ◌==◌, ◌&&◌, Bool, true, false, not, List, [], ◌∷◌, ◌++◌, Option, Some, None, is_none, slice_get, Contains, if◌then◌else◌}
use Rattle.flat_model.specs.declared.equation.Equation.{Equation}
use Rattle.flat_model.specs.declared.equation.Equation.TheVariants.{Valued, Clocks}
use Rattle.flat_model.specs.Occurrences.{bare_count, held_count}
use Rattle.flat_model.specs.Setting.{Setting, class_of_name, class_of_equation, partition_of}
use Rattle.flat_model.specs.Tables.{IsInput}
use Rattle.flat_model.specs.Uses.{Use, Reads, SiteReads}
use Rattle.moment_theory.specs.Free.{AsksLast, IsReachedBy}

-- the uses that pass a test, in their order
abbrev pub uses_where : (Use → Bool) → List Use → List Use
uses_where test [] = []
uses_where test (entry ∷ uses) = if test entry then (entry ∷ uses_where test uses) else uses_where test uses

-- a use that passes the test reaches the name
abbrev pub IsReachedWhere : (Use → Bool) → List Use → ℕ → Type 0
IsReachedWhere test uses y = (entry : Use) × Contains uses entry × (test entry ≡ true) × (entry.name ≡ y)

-- a set of uses that no clock decides of: their equations are unclocked and ask for no last value, and what they and the conditions of sites read, they reach themselves, as far as uses reach it
pub record ArePure (s : Setting) (uses : List Use) (pure : Use → Bool) : Type 0 where
  pub unclocked : (entry : Use) → Contains uses entry → pure entry ≡ true → class_of_equation s entry.equation ≡ None
  pub plain : (entry : Use) (equation : Equation) (z : ℕ) → Contains uses entry → pure entry ≡ true → slice_get s.model.equations entry.equation ≡ Some equation → AsksLast equation z → ⊥
  pub reads : (entry : Use) (y : ℕ) → Contains uses entry → pure entry ≡ true → Reads s entry.equation y → IsReachedBy y uses → IsReachedWhere pure uses y
  pub sites : (class : Option ℕ) (y : ℕ) → SiteReads s class y → IsReachedBy y uses → IsReachedWhere pure uses y

-- the base partition is the one of this number
abbrev pub is_number : ℕ → Option ℕ → Bool
is_number k None = false
is_number k (Some p) = p == k

-- a use whose equation belongs to base partition k
abbrev pub is_of_partition : Setting → ℕ → Use → Bool
is_of_partition s k entry = is_number k (partition_of s (class_of_equation s entry.equation))

-- an unclocked use that is not pure: it waits for a clock
abbrev pub is_waiting : Setting → (Use → Bool) → Use → Bool
is_waiting s pure entry = is_none (class_of_equation s entry.equation) && not (pure entry)

-- the uses of each base partition, from number k on
abbrev pub parts_from : Setting → List Use → ℕ → ℕ → List (List Use)
parts_from s uses k zero = []
parts_from s uses k (suc count) = uses_where (is_of_partition s k) uses ∷ parts_from s uses (suc k) count

-- one list behind the other
abbrev pub joined : List (List Use) → List Use
joined [] = []
joined (piece ∷ pieces) = piece ++ joined pieces

-- the order of a moment: the pure uses, those of each base partition, and the unclocked ones that wait for a clock
abbrev pub moment_order : Setting → (Use → Bool) → ℕ → List Use → List Use
moment_order s pure count uses = uses_where pure uses ++ (joined (parts_from s uses 0 count) ++ uses_where (is_waiting s pure) uses)

-- no base partition has a number from here on
abbrev pub ArePartitionsBelow : Setting → ℕ → Type 0
ArePartitionsBelow s count = (class k : ℕ) → partition_of s (Some class) ≡ Some k → k < count

-- a name stands bare in an equation, or under `hold`
abbrev pub StandsBare : Equation → ℕ → Type 0
StandsBare (Valued left right clause) y = (0 < bare_count y left) ⊎ (0 < bare_count y right)
StandsBare (Clocks left right clause) y = ⊥

abbrev pub Holds : Equation → ℕ → Type 0
Holds (Valued left right clause) z = (0 < held_count z left) ⊎ (0 < held_count z right)
Holds (Clocks left right clause) z = ⊥

-- a set of names that the conditions of sites rest on, and no clock: all are unclocked; what stands bare in an equation beside one of them is of the set, or an input; and no such equation holds a name
pub record AreUnheld (s : Setting) (group : ℕ → Bool) : Type 0 where
  pub unclocked : (y : ℕ) → group y ≡ true → class_of_name s y ≡ None
  pub sites : (class : Option ℕ) (y : ℕ) → SiteReads s class y → (group y ≡ true) ⊎ IsInput s.model.names y
  pub beside : (i : ℕ) (equation : Equation) (y z : ℕ) → slice_get s.model.equations i ≡ Some equation → group y ≡ true → StandsBare equation y → StandsBare equation z
      → (group z ≡ true) ⊎ IsInput s.model.names z
  pub holds : (i : ℕ) (equation : Equation) (y z : ℕ) → slice_get s.model.equations i ≡ Some equation → group y ≡ true → StandsBare equation y → Holds equation z → ⊥
