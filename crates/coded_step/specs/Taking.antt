-- What the code of a base partition's uses does at a moment. This project's own.
use Rattle.std.specs.Prelude.{◌≡◌, ℕ, suc, List, vec_len, Some, None, slice_get, Contains, All}
use Rattle.flat_model.specs.declared.expression.Expr.{Expr}
use Rattle.flat_model.specs.Values.{value_in}
use Rattle.flat_model.specs.Asks.{AsksFor, OfNow, OfLast}
use Rattle.flat_model.specs.Assignment.{Assignment, previous_value}
use Rattle.flat_model.specs.Given.{Row}
use Rattle.flat_model.specs.Setting.{Setting, class_of_equation, partition_of, start_of, name_ticks}
use Rattle.flat_model.specs.Uses.{Use}
use Rattle.part_words.specs.Words.{IsMeasuredClock}
use Rattle.tree_step.specs.declared.cell.Cell.{Cell}
use Rattle.tree_step.specs.declared.taking.Entry.{Entry}
use Rattle.tree_step.specs.Starts.{Sight, uses_of, IsAmong, KeepsLast, IsStart}
use Rattle.tree_step.specs.Takes.{HasTaken}
use Rattle.part_code.specs.declared.coded.Coded.{Coded}
use Rattle.part_code.specs.Coded.{IsSideOf, IsCodeOf}

-- what a side samples is shown by the values at the moment before
pub record IsSampledBy (s : Setting) (S : Assignment) (m : ℕ) (sight : Sight) (side : Expr) : Type 0 where
  pub now : (y k : ℕ) → AsksFor side 1 (OfNow y) → m ≡ suc k → value_in sight.left.now y ≡ S y k
  pub last : (z k : ℕ) → AsksFor side 1 (OfLast z) → m ≡ suc k → slice_get sight.left.last z ≡ previous_value (name_ticks s S z) (S z) (start_of s z) m

-- the entries are all uses of one base partition, each has its cell in its own place, which keeps the last value of its name, and entries of one clock are of one class
pub record IsCodeStart (s : Setting) (uses before after : List Use) (partition : ℕ) (S : Assignment) (m : ℕ) (base : Row) (sight : Sight) (entries : List Entry) (cells : List Cell) : Type 0 where
  pub start : IsStart s uses before after S m base sight entries cells
  pub of : (entry : Entry) → IsAmong entry entries → partition_of s (class_of_equation s entry.equation) ≡ Some partition
  pub whole : (entry : Use) → Contains uses entry → partition_of s (class_of_equation s entry.equation) ≡ Some partition → Contains (uses_of entries) entry
  pub one_class : (a b : Entry) → IsAmong a entries → IsAmong b entries → a.clock ≡ b.clock → class_of_equation s a.equation ≡ class_of_equation s b.equation
  pub named : (i : ℕ) (cell : Cell) → slice_get cells i ≡ Some cell → (entry : Entry) × (slice_get entries i ≡ Some entry) × (cell.name ≡ entry.name)
  pub placed : (i : ℕ) (entry : Entry) → slice_get entries i ≡ Some entry → slice_get sight.places entry.name ≡ Some i
  pub keeps : (i : ℕ) (cell : Cell) → slice_get cells i ≡ Some cell → KeepsLast s S m cell.name cell
  pub samples : (entry : Entry) (side : Expr) → IsAmong entry entries → IsSideOf sight.equations entry side → IsSampledBy s S m sight side

-- the uses were taken and none of their equations fails, whatever the code stands on
abbrev pub TakesByCode : Sight → List Entry → List Cell → List Cell → Coded → Type 0
TakesByCode sight entries old new code = (s : Setting) (uses before after : List Use) (partition : ℕ) (S : Assignment) (m : ℕ) (base : Row) → IsCodeStart s uses before after partition S m base sight entries old
    → IsCodeOf sight.equations s.model.names entries code → HasTaken s uses S m base sight entries old new None

-- the code is that of the entries in some model, and the clocks can be measured
pub record CanTakeCode (sight : Sight) (entries : List Entry) (cells : List Cell) (code : Coded) : Type 0 where
  pub s : Setting
  pub code_of : IsCodeOf sight.equations s.model.names entries code
  pub measured : All IsMeasuredClock sight.clocks

-- the code is the same but for the words, of which there are as many
pub record IsSameCode (old new : Coded) : Type 0 where
  pub keys : new.keys ≡ old.keys
  pub landings : new.landings ≡ old.landings
  pub stretches : new.stretches ≡ old.stretches
  pub words : vec_len new.words ≡ vec_len old.words
