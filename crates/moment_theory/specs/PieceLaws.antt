-- Laws of the order of a moment, of pieces of it, of groups of names, and of renamed expressions.
use Rattle.std.specs.Prelude.{◌≡◌, ◌↔◌, ℕ, ◌≤◌, ◌++◌, Bool, List, Option, Contains, ◌∷◌, Some, slice_get}
use Rattle.flat_model.specs.declared.equation.Equation.{Equation}
use Rattle.flat_model.specs.declared.expression.Expr.{Expr}
use Rattle.flat_model.specs.declared.model.FlatName.{FlatName}
use Rattle.flat_model.specs.Assignment.{Assignment}
use Rattle.flat_model.specs.Given.{Row, with_row}
use Rattle.flat_model.specs.Meaning.{seen_by, value_of}
use Rattle.flat_model.specs.Meets.{HasOneValue}
use Rattle.flat_model.specs.Order.{IsOrder}
use Rattle.flat_model.specs.Ways.{parts_beside}
use Rattle.flat_model.specs.Runnable.{IsRunnable}
use Rattle.flat_model.specs.Setting.{Setting, class_ticks, views_at}
use Rattle.flat_model.specs.Uses.{Use, IsSolvableFor, AreUses}
use Rattle.flat_model.specs.Views.{Views}
use Rattle.moment_theory.specs.Division.{ArePure, AreUnheld, ArePartitionsBelow, joined, parts_from, moment_order}
use Rattle.moment_theory.specs.Free.{AreFree, AreSameUses, IsOrdered}
use Rattle.moment_theory.specs.Groups.{AgreeOnUpTo, IsClockWithin, IsWithin, IsUseWithin, IsSolvedAlike}
use Rattle.moment_theory.specs.Pieces.{AreApart, AreTakenAlone, AreBeside}
use Rattle.moment_theory.specs.Renamed.{renamed, renamed_equation, views_through, HasOwnNumber}
use Rattle.moment_theory.specs.Sound.{IsSound, IsClear, WaitsForNoOwn, AgreeOnNeeds, DoesAlike}
use Rattle.moment_theory.specs.Taken.{AreInputs, AreTaken}

-- the pure uses, those of each base partition and the unclocked ones that wait for a clock are, in this order, a free order of all uses
abbrev pub DivisionLaw : Type 0
DivisionLaw = (s : Setting) (uses : List Use) (pure : Use → Bool) (count : ℕ) → IsRunnable s → AreUses s uses → ArePure s uses pure → ArePartitionsBelow s count
    → AreSameUses uses (moment_order s pure count uses) × AreFree s (moment_order s pure count uses)

-- the uses that reach names on which the conditions of sites rest, and no clock, are pure
abbrev pub UnheldLaw : Type 0
UnheldLaw = (s : Setting) (uses : List Use) (group : ℕ → Bool) → IsRunnable s → AreUses s uses → AreUnheld s group → ArePure s uses (λ entry. group entry.name)

-- so a runnable setting with an order has a free order
abbrev pub OrderedLaw : Type 0
OrderedLaw = (s : Setting) (uses : List Use) (group : ℕ → Bool) (count : ℕ) → IsRunnable s → IsOrder s uses → AreUnheld s group → ArePartitionsBelow s count
    → IsOrdered s uses (moment_order s (λ entry. group entry.name) count uses)

-- the uses of two base partitions need nothing of each other
abbrev pub PartitionsLaw : Type 0
PartitionsLaw = (s : Setting) (uses : List Use) (pure : Use → Bool) (count : ℕ) → IsRunnable s → AreUses s uses → ArePure s uses pure
    → AreApart s (parts_from s uses 0 count)

-- pieces that need nothing of each other, each taken by itself from what the first uses gave, are taken one behind the other
abbrev pub PiecesLaw : Type 0
PiecesLaw = (s : Setting) (uses first rest : List Use) (pieces : List (List Use)) → IsOrdered s uses (first ++ (joined pieces ++ rest)) → AreApart s pieces
    → (S : Assignment) (m : ℕ) (inputs base : Row) → AreInputs s m inputs → AreTaken s S m first inputs base
    → (owns : ℕ → Row) → AreTakenAlone s S m base owns pieces
    → (row : Row) × AreTaken s S m (first ++ joined pieces) inputs row × AreBeside base owns pieces row

-- when a class ticks rests on the group that its clock waits for
abbrev pub GroupTickLaw : Type 0
GroupTickLaw = (s : Setting) (group : ℕ → Bool) (S T : Assignment) (m : ℕ) → IsRunnable s → AgreeOnUpTo group S T m
    → (class : Option ℕ) → IsClockWithin s group class → (k : ℕ) → k ≤ m → class_ticks s S class k ≡ class_ticks s T class k

-- and the value of an expression at a moment on the group that it asks for
abbrev pub GroupLaw : Type 0
GroupLaw = (s : Setting) (group : ℕ → Bool) (S T : Assignment) (m : ℕ) → IsRunnable s → AgreeOnUpTo group S T m
    → (e : Expr) (class : Option ℕ) → IsWithin s group class e → value_of e (views_at s S class m) ≡ value_of e (views_at s T class m)

-- so a use within a group gives, or has no solution, alike under two assignments that agree on the group
abbrev pub GroupUseLaw : Type 0
GroupUseLaw = (s : Setting) (group : ℕ → Bool) (S T : Assignment) (m : ℕ) → IsRunnable s → AgreeOnUpTo group S T m
    → (entry : Use) → IsUseWithin s group entry → (equation : Equation) (name : FlatName) → IsSolvedAlike s S T m entry equation name

-- a renamed expression has the value of the expression, seen through the renaming
abbrev pub RenamedLaw : Type 0
RenamedLaw = (place : ℕ → ℕ) (e : Expr) (views : Views) → value_of (renamed place e) views ≡ value_of e (views_through place views)

-- a renamed equation is met as the equation is, is solvable for the same name, and has the same parts beside its way, seen through the renaming
abbrev pub RenamedEquationLaw : Type 0
RenamedEquationLaw = (place : ℕ → ℕ) (x : ℕ) (equation : Equation) → HasOwnNumber place x
    → ((views : Views) → HasOneValue views (renamed_equation place equation) ↔ HasOneValue (views_through place views) equation)
    × (IsSolvableFor x equation → IsSolvableFor (place x) (renamed_equation place equation))
    × ((views : Views) → seen_by views (parts_beside (place x) (renamed_equation place equation)) ≡ seen_by (views_through place views) (parts_beside x equation))

-- the inputs are a sound row, and uses taken in a free order from a sound row that has none of their values leave a sound row
abbrev pub SoundLaw : Type 0
SoundLaw = (s : Setting) (uses : List Use) → IsRunnable s → AreUses s uses → (S : Assignment) (m : ℕ)
    → ((inputs : Row) → AreInputs s m inputs → IsSound s (with_row S m inputs) m)
    × ((piece : List Use) (base row : Row) → ((entry : Use) → Contains piece entry → Contains uses entry) → AreFree s piece → IsClear piece base
    → IsSound s (with_row S m base) m → AreTaken s S m piece base row → IsSound s (with_row S m row) m)

-- a use gives, and fails, over a sound row as over any that agrees on what it needs
abbrev pub AlikeLaw : Type 0
AlikeLaw = (s : Setting) (uses : List Use) → IsRunnable s → AreUses s uses → (S : Assignment) (m : ℕ) (entry : Use) → Contains uses entry → WaitsForNoOwn s entry
    → (a b : Row) → IsSound s (with_row S m a) m → AgreeOnNeeds s entry a b → DoesAlike s uses S m entry a b

-- what a use does at its turn in a free order it does over the last row, and the other way round
abbrev pub TurnLaw : Type 0
TurnLaw = (s : Setting) (uses before after : List Use) (entry : Use) → IsOrdered s uses (before ++ entry ∷ after)
    → (S : Assignment) (m : ℕ) (inputs row last : Row) → AreInputs s m inputs → AreTaken s S m before inputs row → AreTaken s S m (entry ∷ after) row last
    → DoesAlike s uses S m entry row last × DoesAlike s uses S m entry last row

-- what a use does over the row of its piece it does over the row of all pieces, and the other way round
abbrev pub PieceUseLaw : Type 0
PieceUseLaw = (s : Setting) (uses first rest : List Use) (pieces : List (List Use)) → IsOrdered s uses (first ++ (joined pieces ++ rest)) → AreApart s pieces
    → (S : Assignment) (m : ℕ) (inputs base : Row) → AreInputs s m inputs → AreTaken s S m first inputs base
    → (owns : ℕ → Row) → AreTakenAlone s S m base owns pieces
    → (row : Row) → AreTaken s S m (first ++ joined pieces) inputs row → AreBeside base owns pieces row
    → (i : ℕ) (piece : List Use) → slice_get pieces i ≡ Some piece → (entry : Use) → Contains piece entry
    → DoesAlike s uses S m entry (owns i) row × DoesAlike s uses S m entry row (owns i)
