-- A raw model has one answer.
use Rattle.std.specs.Prelude.{◌≡◌, ◌≢◌, Result, Err}
use Rattle.flat_model.specs.declared.model.FlatModel.{FlatModel}
use Rattle.flat_model.specs.declared.raw.RawModel.{RawModel}
use Rattle.flat_types.specs.declared.ends.TypeEnd.{TypeEnd}
use Rattle.flat_types.specs.declared.ends.TypeEnd.TheVariants.{NoMemory}
use Rattle.flat_types.specs.Typed.{Answers}

-- two answers to one raw model are one, but for want of memory
abbrev pub AnswerLaw : Type 0
AnswerLaw = (raw : RawModel) (a b : Result FlatModel TypeEnd) → Answers raw a → Answers raw b → a ≢ Err NoMemory → b ≢ Err NoMemory → a ≡ b
