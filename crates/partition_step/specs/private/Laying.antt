-- How uses are laid out.
use Rattle.std.specs.Prelude.{◌≡◌, ℕ, ◌⊎◌, List, [], ◌∷◌, ◌++◌, length, Some, None, slice_get, unwrap_or}
use Rattle.flat_model.specs.declared.clock.Clock.{Clock}
use Rattle.flat_model.specs.declared.clock.Clock.TheVariants.{Event}
use Rattle.flat_model.specs.declared.clock.Clocking.{Clocking}
use Rattle.flat_model.specs.declared.model.FlatName.{FlatName}
use Rattle.flat_model.specs.Setting.{flattened, start_in}
use Rattle.eq_order.specs.declared.uses.Use.{Use}
use Rattle.tree_step.specs.declared.cell.Cell.{Cell}
use Rattle.tree_step.specs.declared.cell.Standing.TheVariants.{Rests}
use Rattle.tree_step.specs.declared.taking.Entry.{Entry}
use Rattle.partition_step.specs.declared.part.ClassKept.{ClassKept}

-- the class of an equation, and its clock; where there is none, whatever
abbrev pub class_in : Clocking → ℕ → ℕ
class_in clocking equation = unwrap_or (flattened (slice_get clocking.of_equation equation)) 0

abbrev pub clock_in : Clocking → ℕ → Clock
clock_in clocking class = unwrap_or (slice_get clocking.clocks class) (Event 0 1 0)

-- a class before its first tick
abbrev pub new_class : Clocking → ℕ → ClassKept
new_class clocking class = record { class = class; clock = clock_in clocking class; ticked = None }

-- a use with the place of its class
abbrev pub entry_of : Use → ℕ → Entry
entry_of taken place = record { equation = taken.equation; name = taken.name; spine = taken.spine; clock = place }

-- a cell before the first moment
abbrev pub new_cell : List FlatName → Use → Cell
new_cell names taken = record { name = taken.name; kept = start_in (slice_get names taken.name); standing = Rests; now = None }

-- the place of a class that is kept, or was added at the end
abbrev pub IsOpened : List ClassKept → ClassKept → List ClassKept → ℕ → Type 0
IsOpened old kept new place =
    (((found : ClassKept) × (slice_get old place ≡ Some found) × (found.class ≡ kept.class)) × (new ≡ old))
    ⊎ ((place ≡ length old) × (new ≡ old ++ kept ∷ []))

-- the first uses are laid out: each with the place of its class
pub record AreLaidOut (clocking : Clocking) (uses : List Use) (i : ℕ) (entries : List Entry) (classes : List ClassKept) : Type 0 where
  pub size : length entries ≡ i
  pub each : (j : ℕ) (entry : Entry) → slice_get entries j ≡ Some entry → (taken : Use) × (slice_get uses j ≡ Some taken) × (entry ≡ entry_of taken entry.clock)
      × (slice_get classes entry.clock ≡ Some (new_class clocking (class_in clocking taken.equation)))
  pub fresh : (j : ℕ) (kept : ClassKept) → slice_get classes j ≡ Some kept → (k : ℕ) × (taken : Use) × (slice_get uses k ≡ Some taken) × (kept ≡ new_class clocking (class_in clocking taken.equation))

-- no two uses reach one name
abbrev pub AreOnce : List Use → Type 0
AreOnce uses = (i j : ℕ) (one other : Use) → slice_get uses i ≡ Some one → slice_get uses j ≡ Some other → one.name ≡ other.name → i ≡ j
