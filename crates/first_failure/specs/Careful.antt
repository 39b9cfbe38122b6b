-- What the careful run of equations is, one by one.
use Rattle.std.specs.Prelude.{◌≡◌, ℕ, ◌&&◌, Bool, true, false, ℤ, List, [], ◌∷◌, Option, Some, None, nat_le, slice_set, if◌then◌else◌}
use Rattle.std.specs.List.{list_all}
use Rattle.step_code.specs.Machine.{AreWithin}
use Rattle.step_lines.specs.declared.running.Failing.{Failing}
use Rattle.step_lines.specs.Stretches.{RunsLines}
use Rattle.part_stretches.specs.Running.{tick_in}
use Rattle.first_failure.specs.declared.careful.LoneLine.{LoneLine}
use Rattle.first_failure.specs.declared.least.EquationFailing.{EquationFailing}

-- the bits at all these places are set
abbrev pub all_in : List Bool → List ℕ → Bool
all_in bits places = list_all (tick_in bits) places

-- the bits with the one at a place set
abbrev pub with_bit : List Bool → ℕ → List Bool
with_bit bits place = slice_set bits place true

-- the failure of the lesser equation
abbrev pub less_of : Option EquationFailing → EquationFailing → EquationFailing
less_of None other = other
less_of (Some failing) other = if nat_le failing.equation other.equation then failing else other

-- all instructions of a line name cells that are there
abbrev pub IsLoneWithin : ℕ → LoneLine → Type 0
IsLoneWithin n one = AreWithin n one.stretch.code.items

-- where a careful run stands: the cells that are marked as readable, what all cells hold, and the least equation that failed so far
pub record CarefulState : Type 0 where
  pub marks : List Bool
  pub cells : List ℤ
  pub told : Option EquationFailing

-- a line is run where its class ticks and all cells that it reads are marked
abbrev pub is_ready : List Bool → List Bool → LoneLine → Bool
is_ready ticking marks one = tick_in ticking one.class && all_in marks one.reads.items

-- a line that has a value marks its cell, and one that fails is told if no lesser one was
abbrev pub Marks : LoneLine → CarefulState → CarefulState → Option Failing → Type 0
Marks one before after None = (after.marks ≡ with_bit before.marks one.cell) × (after.told ≡ before.told)
Marks one before after (Some failing) = (after.marks ≡ before.marks) × (after.told ≡ Some (less_of before.told (record { equation = one.equation; kind = failing.kind })))

-- a line that is ready runs, and any other is left out
abbrev pub RunsLone : Bool → LoneLine → CarefulState → CarefulState → Type 0
RunsLone false one before after = after ≡ before
RunsLone true one before after = (stop : Option Failing) × RunsLines one.stretch before.cells after.cells stop × Marks one before after stop

-- lines run one after the other
abbrev pub RunsEach : List Bool → List LoneLine → CarefulState → CarefulState → Type 0
RunsEach ticking [] before after = after ≡ before
RunsEach ticking (one ∷ rest) before after = (mid : CarefulState) × RunsLone (is_ready ticking before.marks one) one before mid × RunsEach ticking rest mid after
