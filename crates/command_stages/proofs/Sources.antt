-- The text of a model, from its file or made.
use Rattle.std.proofs.Common.{◌≡◌, refl, sym, subst, ℕ, ◌≤◌, List, length, Result, Ok, Err, IfOk, IfErr}
use Rattle.command_words.specs.declared.command.Mode.{Mode}
use Rattle.command_words.specs.declared.command.Mode.TheVariants.{Run, Flat, Clocks, Stress}
use Rattle.flat_model.specs.declared.place.Place.TheVariants.{Model}
use Rattle.stress_text.specs.Text.{stress_text}
use Rattle.command_answer.specs.Actions.{source_in}
use Rattle.command_answer.specs.Layers.{few}
use Rattle.command_answer.specs.Stages.{Stage, ◌>>=◌, always}
use Rattle.mo_lexer.specs.Tokens.{model_limit}
use Rattle.command_stages.specs.declared.end.End.{End}
use Rattle.command_stages.specs.Ends.{Halts}
use Rattle.command_stages.specs.Segments.{file_of}

-- the text of the stress model is made
pub stress_made : (reads : List ℕ → Stage (List ℕ)) (mode : Mode) (members : ℕ) (name bytes : List ℕ) → mode ≡ Stress members → bytes ≡ stress_text members → length bytes ≤ model_limit
    → (file_of (source_in reads mode) model_limit Model name).makes bytes
unfolding file_of source_in few always ◌>>=◌
stress_made reads mode members name bytes is same short = subst (λ m. (file_of (source_in reads m) model_limit Model name).makes bytes) (sym is) (bytes, same, (tt, short, refl))

-- in the other modes the file is read
module _ (reads : List ℕ → Stage (List ℕ)) (name : List ℕ) where
  pub file_made : (mode : Mode) → ((members : ℕ) → mode ≡ Stress members → ⊥) → (bytes : List ℕ) → (file_of reads model_limit Model name).makes bytes → (file_of (source_in reads mode) model_limit Model name).makes bytes
  unfolding file_of source_in ◌>>=◌
  file_made Run other bytes made = made
  file_made Flat other bytes made = made
  file_made Clocks other bytes made = made
  file_made (Stress members) other bytes made = absurd (other members refl)

  pub file_halts : (mode : Mode) → ((members : ℕ) → mode ≡ Stress members → ⊥) → (end : End) → Halts (file_of reads model_limit Model name) end → Halts (file_of (source_in reads mode) model_limit Model name) end
  unfolding file_of source_in ◌>>=◌
  file_halts Run other end halts = halts
  file_halts Flat other end halts = halts
  file_halts Clocks other end halts = halts
  file_halts (Stress members) other end halts = absurd (other members refl)
