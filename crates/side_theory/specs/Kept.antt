-- What the cells of a part hold, between moments and at one. This project's own.
use Rattle.std.specs.Prelude.{◌≡◌, ℕ, suc, ◌<◌, true, false, ℤ, List, Some, None, is_none}
use Rattle.sync_values.specs.Arithmetic.{fitted}
use Rattle.sync_values.specs.Relation.{rank}
use Rattle.sync_values.specs.declared.value.Value.{Value}
use Rattle.sync_values.specs.declared.value.Value.TheVariants as value
use Rattle.flat_model.specs.Assignment.{Assignment, tick_before, previous_value}
use Rattle.flat_model.specs.Given.{Row, with_row}
use Rattle.flat_model.specs.Meaning.{whole_of}
use Rattle.flat_model.specs.Setting.{Setting, clock_of, start_of, class_ticks, name_ticks, interval_at}
use Rattle.step_code.specs.declared.machine.Op.TheVariants.{Guard}
use Rattle.step_code.specs.Machine.{word_at, result_of}
use Rattle.step_code.specs.Code.{Cells}
use Rattle.side_theory.specs.Runs.{HoldsRow}

-- a cell below the free ones holds the word of a value
abbrev pub HasWord : ℕ → List ℤ → ℕ → Value → Type 0
HasWord t cells c v = (c < t) × (word_at cells c ≡ rank v)

-- the cell of a name's last value is that of its value; of the moment before there are values and last values alone, and of earlier ones nothing
pub record IsLaidOut (at : Cells) : Type 0 where
  pub last : (x c : ℕ) → (at 0).last x ≡ Some c → (at 0).now x ≡ Some c
  pub previous : (k x : ℕ) → (at (suc k)).previous x ≡ None
  pub first : (k : ℕ) → (at (suc k)).first ≡ None
  pub interval : (k n : ℕ) → (at (suc k)).interval n ≡ None
  pub far : (k x : ℕ) → (at (suc (suc k))).now x ≡ None
  pub far_last : (k x : ℕ) → (at (suc (suc k))).last x ≡ None

-- between moments: the cell of each name holds its last value before m, and that of each constant its word
pub record Keeps (s : Setting) (S : Assignment) (m : ℕ) (at : Cells) (t : ℕ) (cells : List ℤ) : Type 0 where
  pub last : (x c : ℕ) (v : Value) → (at 0).now x ≡ Some c → previous_value (name_ticks s S x) (S x) (start_of s x) m ≡ Some v → HasWord t cells c v
  pub const : (k c : ℕ) (v : Value) → (at k).const v ≡ Some c → HasWord t cells c v

-- at a moment, over a row: the cell of each name holds its value of the row, or its last value where it rests; further cells hold the values at the ticks before, and values and last values at the moment before
pub record IsSet (s : Setting) (S : Assignment) (m : ℕ) (row : Row) (at : Cells) (t : ℕ) (cells : List ℤ) : Type 0 where
  pub now : (x c : ℕ) (v : Value) → (at 0).now x ≡ Some c → row x ≡ Some v → HasWord t cells c v
  pub kept : (x c : ℕ) (v : Value) → (at 0).now x ≡ Some c → name_ticks s (with_row S m row) x m ≡ false → previous_value (name_ticks s S x) (S x) (start_of s x) m ≡ Some v → HasWord t cells c v
  pub previous : (x c : ℕ) (v : Value) → (at 0).previous x ≡ Some c → previous_value (name_ticks s S x) (S x) (start_of s x) m ≡ Some v → HasWord t cells c v
  pub left : (x c k : ℕ) (v : Value) → (at 1).now x ≡ Some c → m ≡ suc k → S x k ≡ Some v → HasWord t cells c v
  pub left_last : (x c : ℕ) (v : Value) → (at 1).last x ≡ Some c → previous_value (name_ticks s S x) (S x) (start_of s x) m ≡ Some v → HasWord t cells c v
  pub const : (k c : ℕ) (v : Value) → (at k).const v ≡ Some c → HasWord t cells c v

-- and of a class: whether it ticks for the first time, and its interval so many times
pub record IsClockSet (s : Setting) (S : Assignment) (m class : ℕ) (at : Cells) (t : ℕ) (cells : List ℤ) : Type 0 where
  pub first : (c : ℕ) → (at 0).first ≡ Some c → HasWord t cells c (value.Bool (is_none (tick_before (class_ticks s S (Some class)) m)))
  pub interval : (n c : ℕ) → (at 0).interval n ≡ Some c → (c < t) × ((at 0).unfit n < t)
      × (result_of Guard (word_at cells ((at 0).unfit n)) (word_at cells c) ≡ fitted (whole_of (interval_at s (class_ticks s S (Some class)) m (clock_of s (Some class))) n))

-- cells that are set hold what an equation of a class that ticks can read
abbrev pub SetLaw : Type 0
SetLaw = (s : Setting) (S : Assignment) (m : ℕ) (row : Row) (class : ℕ) (at : Cells) (t : ℕ) (cells : List ℤ) → IsLaidOut at → class_ticks s (with_row S m row) (Some class) m ≡ true
    → IsSet s S m row at t cells → IsClockSet s S m class at t cells → HoldsRow s S m row class at t cells

-- cells that were set at a moment keep the last values before the next one, and so do those of a part none of whose names has a value of the moment
abbrev pub KeepsLaw : Type 0
KeepsLaw = (s : Setting) (S : Assignment) (m : ℕ) (row : Row) (at : Cells) (t : ℕ) (cells : List ℤ) → IsSet s S m row at t cells → Keeps s (with_row S m row) (suc m) at t cells
