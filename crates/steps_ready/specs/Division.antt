-- How uses are divided by their stages.
use Rattle.std.specs.Prelude.{◌≡◌, ℕ, ◌<◌, List, [], ◌∷◌, length, map, slice_index_or, if◌then◌else◌}
use Rattle.eq_order.specs.declared.uses.Use.{Use}
use Rattle.tree_step.specs.declared.taking.Entry.{Entry}
use Rattle.moment_order.specs.declared.stage.Stage.{Stage}
use Rattle.moment_order.specs.declared.stage.Stage.TheVariants.{Pure, Partition, Waiting}
use Rattle.moment_order.specs.Stages.{is_stage}

-- a use that no clock governs, with the clock that always ticks
abbrev pub entry_of : Use → Entry
entry_of taken = record { equation = taken.equation; name = taken.name; spine = taken.spine; clock = 0 }

-- a use alone, where its own stage is this one
abbrev pub just : Stage → Stage → Use → List Use
just stage own taken = if is_stage stage own then (taken ∷ []) else []

-- the uses of a stage, in their order
abbrev pub taken_at : Stage → List Stage → List Use → List Use
taken_at stage [] order = []
taken_at stage (own ∷ stages) [] = []
taken_at stage (own ∷ stages) (taken ∷ order) = if is_stage stage own then (taken ∷ taken_at stage stages order) else taken_at stage stages order

-- the uses of a base partition, by its number
abbrev pub part_of : List (List Use) → ℕ → List Use
part_of parts k = slice_index_or parts k []

-- each stage has its uses
pub record AreDivided (stages : List Stage) (order : List Use) (count : ℕ) (pure waiting : List Entry) (parts : List (List Use)) : Type 0 where
  pub pure_are : pure ≡ map entry_of (taken_at Pure stages order)
  pub waiting_are : waiting ≡ map entry_of (taken_at Waiting stages order)
  pub size : length parts ≡ count
  pub parts_are : (k : ℕ) → k < count → part_of parts k ≡ taken_at (Partition k) stages order
