-- What the call that prints a run leaves on out and err. This project's own.
use Rattle.std.specs.Prelude.{◌≡◌, ◌⊎◌, ℕ, List, Option}
use Rattle.flat_model.specs.declared.model.FlatModel.{FlatModel}
use Rattle.flat_model.specs.Assignment.{Assignment}
use Rattle.flat_model.specs.Setting.{Setting}
use Rattle.command_answer.specs.declared.status.Status.{Status}
use Rattle.command_answer.specs.Actions.{Runs}
use Rattle.command_answer.specs.Calls.{Outside, Written, EndsWith, no_memory}
use Rattle.command_answer.specs.Stages.{Answer}

-- a sink before and after a call, by its texts and its counts of faults
abbrev pub written : Option (List ℕ) → Option (List ℕ) → ℕ → ℕ → Written
written old new before after = record { old = old; new = new; before = before; after = after }

-- whatever else the call does on the outside, it ends so with these two sinks
abbrev pub EndsOn : (Answer → Type 0) → Written → Written → Status → Type 0
EndsOn Right out err status = (o : Outside) → o.out ≡ out → o.err ≡ err → EndsWith Right o status

-- for each setting of the model for which the rows stand before the first moment, the right answer is that of its run, or memory was refused
abbrev pub PrintsRuns : (Setting → Assignment → ℕ → Type 0) → FlatModel → Written → Written → Status → Type 0
PrintsRuns stands model out err status = (s : Setting) (S : Assignment) → stands s S 0 → s.model ≡ model → EndsOn (λ answer. Runs s answer ⊎ (answer ≡ no_memory)) out err status
