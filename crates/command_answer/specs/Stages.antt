-- Stages of a command: each makes something of what it is given, or the command ends there with an answer. This project's own.
use Rattle.std.specs.Prelude.{◌≡◌, ℕ, ◌⊎◌, List, [], Option, Some, Result, Ok, Err}
use Rattle.flat_model.specs.declared.place.Place.{Place}
use Rattle.trace_print.specs.declared.code.Code.{Code}
use Rattle.trace_print.specs.Refusals.{refusal_line}
use Rattle.command_answer.specs.declared.status.Status.{Status}
use Rattle.command_answer.specs.declared.status.Status.TheVariants.{Done, Refused, Usage}

-- the status of a command, and what it puts on out and err
pub record Answer : Type 0 where
  pub status : Status
  pub out : List ℕ
  pub err : List ℕ

-- a text is printed
abbrev pub printed : List ℕ → Answer
printed text = record { status = Done; out = text; err = [] }

-- the words are refused with a line
abbrev pub usage_answer : List ℕ → Answer
usage_answer line = record { status = Usage; out = []; err = line }

-- a rule is broken at a place
abbrev pub refused : Code → Place → Answer
refused code place = record { status = Refused; out = []; err = refusal_line code place }

pub record Stage (A : Type 0) : Type 1 where
  -- it makes this
  pub makes : A → Type 0
  -- the command ends here, with this answer
  pub ends : Answer → Type 0

-- a stage, and after it one that takes what the first one makes
infixl 10 ◌>>=◌
unfoldable pub ◌>>=◌ : {A B : Type 0} → Stage A → (A → Stage B) → Stage B
R >>= S = record {
  makes = λ y. (x : _) × R.makes x × (S x).makes y;
  ends = λ answer. R.ends answer ⊎ ((x : _) × R.makes x × (S x).ends answer);
}

infixl 10 ◌>>◌
abbrev pub ◌>>◌ : {A B : Type 0} → Stage A → Stage B → Stage B
R >> S = R >>= (λ _. S)

-- what breaks no rule: the command never ends here
unfoldable pub always : {A : Type 0} → (A → Type 0) → Stage A
always made = record { makes = made; ends = λ answer. ⊥ }

-- the command ends here in any case
unfoldable pub ends_with : (Answer → Type 0) → Stage (Unit {0})
ends_with answers = record { makes = λ x. ⊥; ends = answers }

-- a layer of the program makes what it answers, and an end of it that is told ends the command
unfoldable pub layer : {A E : Type 0} → (Result A E → Type 0) → (E → Option Answer) → Stage A
layer {A} {E} answers told = record { makes = λ x. answers (Ok x); ends = λ answer. (end : E) × answers (Err end) × (told end ≡ Some answer) }
