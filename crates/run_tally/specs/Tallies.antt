-- What the rows of a run add up to, and how it is told. This project's own.
use Rattle.std.specs.Prelude.{◌≡◌, ◌⊎◌, ℕ, List, [], length, Result, Ok, Err}
use Rattle.flat_model.specs.declared.fault.Fault.{Fault}
use Rattle.flat_model.specs.declared.model.FlatModel.{FlatModel}
use Rattle.flat_model.specs.Assignment.{Assignment}
use Rattle.flat_model.specs.Meets.{Meets}
use Rattle.flat_model.specs.Runs.{IsFaultedRun, fault_line}
use Rattle.flat_model.specs.Setting.{Setting}
use Rattle.flat_model.specs.Trace.{columns_of}
use Rattle.stress_sums.specs.declared.sums.Sums.{Sums}
use Rattle.stress_sums.specs.Sums.{sums_to, stress_lines}
use Rattle.command_answer.specs.declared.status.Status.TheVariants.{Faulted}
use Rattle.command_answer.specs.Stages.{Answer, printed}

-- the sums are those of an assignment that meets the model up to the last moment
pub record IsWholeTally (s : Setting) (sums : Sums) : Type 0 where
  pub assignment : Assignment
  pub meets : Meets s assignment (length s.instants)
  pub sums_are : sums ≡ sums_to (columns_of s.model.names) assignment (length s.instants)

-- a run to its end, or to its first fault
abbrev pub TalliesRun : Setting → Result Sums Fault → Type 0
TalliesRun s (Ok sums) = IsWholeTally s sums
TalliesRun s (Err fault) = (text : List ℕ) × IsFaultedRun s text (fault_line fault.moment fault.place fault.kind)

abbrev pub TalliesRuns : (Setting → Assignment → ℕ → Type 0) → FlatModel → Result Sums Fault → Type 0
TalliesRuns stands model result = (s : Setting) (S : Assignment) → stands s S 0 → s.model ≡ model → TalliesRun s result

-- the lines of what the rows add up to, or the line of the first fault alone
abbrev pub AddsUp : ℕ → Setting → Answer → Type 0
AddsUp members s answer = ((S : Assignment) × Meets s S (length s.instants) × (answer ≡ printed (stress_lines members s.model.names S (length s.instants))))
    ⊎ ((text : List ℕ) × (line : List ℕ) × IsFaultedRun s text line × (answer ≡ record { status = Faulted; out = []; err = line }))
