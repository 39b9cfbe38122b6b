-- Parts of the chain of a command that one function does. This project's own.
use Rattle.std.specs.Prelude.{◌≡◌, ◌≤◌, ℕ, List}
use Rattle.mo_parser.specs.declared.tree.Tree.{Tree}
use Rattle.flat_model.specs.declared.model.FlatModel.{FlatModel}
use Rattle.flat_model.specs.declared.place.Place.{Place}
use Rattle.command_words.specs.Choice.{Choice}
use Rattle.command_words.specs.declared.command.Mode.{Mode}
use Rattle.command_words.specs.declared.command.Mode.TheVariants.{Stress}
use Rattle.command_answer.specs.Actions.{in_mode}
use Rattle.command_answer.specs.Calls.{Outside, reads_in}
use Rattle.command_answer.specs.Layers.{few, lexed, parsed}
use Rattle.command_answer.specs.Stages.{Stage, ◌>>=◌, ◌>>◌, always, printed}
use Rattle.command_stages.specs.declared.end.End.{End}
use Rattle.command_stages.specs.Ends.{Halts}

-- a file of at most so many bytes: L0 at a place
unfoldable pub file_of : (List ℕ → Stage (List ℕ)) → ℕ → Place → List ℕ → Stage (List ℕ)
file_of reads limit at name = do
  bytes ← reads name
  few limit at bytes
  always (λ text. text ≡ bytes)

-- the stress model has at most 1,000 members
abbrev pub HasFewMembers : Mode → Type 0
HasFewMembers (Stress members) = members ≤ 1000
HasFewMembers mode = Unit {0}

-- the tree of a text
unfoldable pub tree_of : List ℕ → Stage Tree
tree_of text = do
  tokens ← lexed text
  parsed text tokens

-- the text is the answer in a mode, in any call
abbrev pub PrintsIn : Mode → FlatModel → List ℕ → Type 0
PrintsIn mode flat text = (o : Outside) (c : Choice) → (in_mode (reads_in o) mode c flat).ends (printed text)

-- the command ends early in a mode, in any call
abbrev pub HaltsIn : Mode → FlatModel → End → Type 0
HaltsIn mode flat end = (o : Outside) (c : Choice) → Halts (in_mode (reads_in o) mode c flat) end
