-- What a parse of the words gives.
use Rattle.std.specs.Prelude.{◌≡◌, ℕ, List, [], codes, option_map, unwrap_or}
use Rattle.std.specs.Borrow.{Bor}
use Rattle.clap.specs.Words.{Text, first_value}
use Rattle.clap.specs.declared.parser.matches.Found.{Found}
use Rattle.command_words.specs.declared.arguments.Given.{Given}
use Rattle.command_words.specs.declared.arguments.GivenEnd.{GivenEnd}
use Rattle.command_words.specs.declared.arguments.GivenEnd.TheVariants.{Untaken, NoMemory}
use Rattle.command_words.specs.declared.mode.ModeWord.{ModeWord}
use Rattle.command_words.specs.declared.mode.ModeWord.TheVariants as word
use Rattle.command_words.specs.Choice.{Texts}
use Rattle.command_words.specs.Words.{AreAccepted}

-- the values of a parse, with their texts as lists of bytes
abbrev pub given_texts : Given → Texts
given_texts g = record {
  model = g.model.now;
  stop = g.stop.now;
  table = option_map (λ (s : Bor Text). s.now) g.table;
  class = option_map (λ (s : Bor Text). s.now) g.class;
  workers = g.workers.now;
  mode = g.mode.now;
}

-- the values are those that the parse found
pub record IsFound (found : Found) (given : Given) : Type 0 where
  pub model : given.model.now ≡ unwrap_or (first_value found (codes "MODEL")) []
  pub stop : given.stop.now ≡ unwrap_or (first_value found (codes "stop")) []
  pub table : option_map (λ (s : Bor Text). s.now) given.table ≡ first_value found (codes "table")
  pub class : option_map (λ (s : Bor Text). s.now) given.class ≡ first_value found (codes "class")
  pub workers : given.workers.now ≡ unwrap_or (first_value found (codes "workers")) []
  pub mode : given.mode.now ≡ unwrap_or (first_value found (codes "mode")) []

-- words of which no values are given, but for want of memory, are not taken
abbrev pub IsUntaken : List Text → GivenEnd → Type 0
IsUntaken words Untaken = AreAccepted words → ⊥
IsUntaken words NoMemory = Unit {0}

-- the text of the word of a mode
abbrev pub word_of : ModeWord → List ℕ
word_of word.Run = codes "run"
word_of word.Flat = codes "flat"
word_of word.Clocks = codes "clocks"
word_of word.Stress = codes "stress"
