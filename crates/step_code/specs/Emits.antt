-- What the making of code answers.
use Rattle.std.specs.Prelude.{◌≡◌, ℕ, ◌+◌, ◌^◌, ◌≤◌, Bool, false, List, ◌++◌, length, Result, Ok, Err}
use Rattle.step_code.specs.declared.compile.NoCode.{NoCode}
use Rattle.step_code.specs.declared.compile.NoCode.TheVariants.{Memory, Unknown, Large}
use Rattle.step_code.specs.declared.machine.Instr.{Instr}

-- why there is no code: the expression is not known, or it needs so many cells and instructions that they have no numbers of 32 bits; memory may be refused at any time
abbrev pub IsRefused : Bool → ℕ → NoCode → Type 0
IsRefused known size Memory = Unit {0}
IsRefused known size Unknown = known ≡ false
IsRefused known size Large = 2 ^ 32 ≤ size

-- the code stands before the old instructions, or there is a reason for none; an expression needs no more cells than it has instructions
abbrev pub Emits : {A : Type 0} → List Instr → Bool → ℕ → List Instr → List Instr → Result A NoCode → Type 0
Emits code known free old new (Ok done) = new ≡ code ++ old
Emits code known free old new (Err kind) = IsRefused known (free + length code) kind

-- a number of 32 bits, where it is one
abbrev pub IsCounted : ℕ → Result ℕ NoCode → Type 0
IsCounted n (Ok number) = number ≡ n
IsCounted n (Err kind) = (kind ≡ Large) × (2 ^ 32 ≤ n)
