-- Laws of parts. This project's own.
use Rattle.std.specs.Prelude.{◌≡◌, ℕ, suc, false, List, Some, None, slice_get}
use Rattle.flat_model.specs.Assignment.{Assignment}
use Rattle.flat_model.specs.Given.{Row}
use Rattle.flat_model.specs.Setting.{Setting, class_ticks}
use Rattle.flat_model.specs.Uses.{Use, AreUses}
use Rattle.moment_theory.specs.Free.{IsReachedBy}
use Rattle.moment_theory.specs.Going.{AgreeBefore}
use Rattle.tree_step.specs.Cells.{cell_in}
use Rattle.tree_step.specs.Frames.{now_in}
use Rattle.partition_step.specs.declared.part.ClassKept.{ClassKept}
use Rattle.partition_step.specs.declared.part.Outcome.{Outcome}
use Rattle.partition_step.specs.declared.part.Part.{Part}
use Rattle.partition_step.specs.Parts.{IsPartOf, StandsFor}
use Rattle.partition_step.specs.Steps.{Showing, HasStepped}

-- a part none of whose classes ticks at m stands before the next moment without a step
abbrev pub RestsLaw : Type 0
RestsLaw = (s : Setting) (own : List Use) (places : List ℕ) (part : Part) → IsPartOf s own places part → (S T : Assignment) (m : ℕ) → StandsFor s S m part → AgreeBefore S T m
    → ((j : ℕ) (kept : ClassKept) → slice_get part.classes.items j ≡ Some kept → class_ticks s T (Some kept.class) m ≡ false) → StandsFor s T (suc m) part

-- a part stays that of its uses where the places of their names stay
abbrev pub PlacesLaw : Type 0
PlacesLaw = (s : Setting) (own : List Use) (old new : List ℕ) (part : Part) → IsPartOf s own old part → ((x : ℕ) → IsReachedBy x own → slice_get new x ≡ slice_get old x) → IsPartOf s own new part

-- a part has no value of a name that its uses do not reach
abbrev pub OthersLaw : Type 0
OthersLaw = (s : Setting) (own : List Use) (places : List ℕ) (part : Part) → IsPartOf s own places part → (x : ℕ) → (IsReachedBy x own → ⊥) → now_in (cell_in places part.cells.items x) ≡ None

-- a step from a row has one outcome, and leaves one value of each name
abbrev pub OneStepLaw : Type 0
OneStepLaw = (s : Setting) (uses own : List Use) (S : Assignment) (m : ℕ) (base : Row) (showing : Showing) → AreUses s uses → (a b : Part) (one two : Outcome)
    → HasStepped s uses own S m base showing a one → HasStepped s uses own S m base showing b two
    → (one ≡ two) × ((x : ℕ) → IsReachedBy x own → now_in (cell_in showing.places a.cells.items x) ≡ now_in (cell_in showing.places b.cells.items x))
