-- The words of the one command, by the definition of `clap`: `MODEL --stop T [--table FILE] [--class NAME] [--workers N] [--mode MODE]`. This project's own.
use Rattle.std.specs.Prelude.{◌≡◌, ◌∷◌, [], List, Some, Option, true, codes, unwrap_or}
use Rattle.clap.specs.Words.{App, Rule, Text, fault_of, first_of, matches_of, new_app, new_rule, with_rule}
use Rattle.clap.specs.Simple.{on_top}
use Rattle.command_words.specs.Choice.{Texts}

-- the word MODEL, which must be there
abbrev pub model_rule : Rule
model_rule = record (new_rule (codes "MODEL")) { required = true }

-- an option of one value, which may be there once
abbrev pub option_rule : Text → Rule
option_rule name = record (new_rule name) { long = Some name }

-- the option `--stop` must be there
abbrev pub stop_rule : Rule
stop_rule = record (option_rule (codes "stop")) { required = true }

-- without `--workers` there is one worker
abbrev pub workers_rule : Rule
workers_rule = record (option_rule (codes "workers")) { defaults = codes "1" ∷ [] }

-- without `--mode` the model is run
abbrev pub mode_rule : Rule
mode_rule = record (option_rule (codes "mode")) { defaults = codes "run" ∷ [] }

-- a command over the words after the program's name, with no argument yet
abbrev pub bare : App
bare = on_top (λ s. record s { no_binary_name = true }) (new_app (codes "clockrun"))

-- the one simple command of the program
unfoldable pub clockrun : App
clockrun =
    with_rule (with_rule (with_rule (with_rule (with_rule (with_rule bare model_rule) stop_rule) (option_rule (codes "table"))) (option_rule (codes "class"))) workers_rule) mode_rule

-- the words are taken: they break no rule of the command, and ask for no help
abbrev pub AreAccepted : List Text → Type 0
AreAccepted words = fault_of clockrun words ≡ []

-- the value of an argument, where it has one
abbrev pub value_at : Text → List Text → Option Text
value_at id words = first_of id (matches_of clockrun words)

-- the value of an argument that always has one
abbrev pub text_at : Text → List Text → Text
text_at id words = unwrap_or (value_at id words) []

-- the values of the arguments
abbrev pub texts_of : List Text → Texts
texts_of words = record {
  model = text_at (codes "MODEL") words;
  stop = text_at (codes "stop") words;
  table = value_at (codes "table") words;
  class = value_at (codes "class") words;
  workers = text_at (codes "workers") words;
  mode = text_at (codes "mode") words;
}
