-- The parts of the base partitions, before the first moment.
use Rattle.std.specs.Prelude.{◌≡◌, ◌≢◌, ℕ, List, map, Some, slice_get}
use Rattle.flat_model.specs.declared.clock.Clocking.{Clocking}
use Rattle.flat_model.specs.declared.model.FlatModel.{FlatModel}
use Rattle.flat_model.specs.Assignment.{Assignment}
use Rattle.flat_model.specs.Setting.{Setting}
use Rattle.flat_model.specs.Uses as flat
use Rattle.eq_order.specs.declared.uses.Use.{Use}
use Rattle.eq_order.specs.Order.{use_of, HaveSpines}
use Rattle.moment_theory.specs.Free.{IsReachedBy}
use Rattle.fork_steps.specs.declared.slot.Slot.{Slot}
use Rattle.moment_steps.specs.declared.piece.Piece.{Piece}
use Rattle.partition_step.specs.Parts.{IsPiece, IsPartOf, StandsFor}

-- uses that are a piece of a free order of some uses
abbrev pub IsSomePiece : Setting → List flat.Use → ℕ → Type 0
IsSomePiece s own partition = (uses : List flat.Use) × (before : List flat.Use) × (after : List flat.Use) × IsPiece s uses before own after partition

-- the uses of each base partition of a setting, with their sides; no two of them reach one name
pub record AreParts (s : Setting) (model : FlatModel) (clocking : Clocking) (parts : List (List Use)) : Type 0 where
  pub model_is : s.model ≡ model
  pub clocking_is : s.clocking ≡ clocking
  pub piece : (k : ℕ) (own : List Use) → slice_get parts k ≡ Some own → IsSomePiece s (map use_of own) k
  pub spines : (k : ℕ) (own : List Use) → slice_get parts k ≡ Some own → HaveSpines s.model.equations own
  pub apart : (i j : ℕ) (one other : List Use) → i ≢ j → slice_get parts i ≡ Some one → slice_get parts j ≡ Some other → (x : ℕ) → IsReachedBy x (map use_of one) → IsReachedBy x (map use_of other) → ⊥

-- a slot has the part of these uses, and it stands for every assignment
pub record IsReadySlot (s : Setting) (own : List Use) (places : List ℕ) (slot : Slot Piece) : Type 0 where
  pub part_of : IsPartOf s (map use_of own) places slot.piece.part
  pub stands : (A : Assignment) → StandsFor s A 0 slot.piece.part

-- each slot has the part of its number
abbrev pub AreReady : FlatModel → Clocking → List (List Use) → List ℕ → List (Slot Piece) → Type 0
AreReady model clocking parts places slots = (s : Setting) → AreParts s model clocking parts → (k : ℕ) (own : List Use) (slot : Slot Piece) → slice_get parts k ≡ Some own → slice_get slots k ≡ Some slot → IsReadySlot s own places slot
