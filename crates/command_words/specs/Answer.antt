-- What words ask for, or why they are refused. This project's own.
use Rattle.std.specs.Prelude.{◌≡◌, ℕ, List, Result, Ok, Err}
use Rattle.command_words.specs.declared.command.UsageFault.{UsageFault}
use Rattle.command_words.specs.declared.command.UsageFault.TheVariants.{Words}
use Rattle.command_words.specs.declared.command.WordsEnd.{WordsEnd}
use Rattle.command_words.specs.declared.command.WordsEnd.TheVariants.{Usage, NoMemory}
use Rattle.command_words.specs.Choice.{Choice, IsChoice, IsMisfit}
use Rattle.command_words.specs.Words.{AreAccepted, texts_of}

-- the words are a command that asks for the choice
pub record IsCommand (words : List (List ℕ)) (choice : Choice) : Type 0 where
  pub taken : AreAccepted words
  pub choice_is : IsChoice (texts_of words) choice

-- the words are refused, and the first check that fails is told
pub data IsUsage (words : List (List ℕ)) (fault : UsageFault) : Type 0 where
  not_taken : (AreAccepted words → ⊥) → fault ≡ Words → IsUsage words fault
  no_choice : AreAccepted words → IsMisfit (texts_of words) fault → IsUsage words fault

-- no command is read: the words are refused, or memory is short
abbrev pub IsEnd : List (List ℕ) → WordsEnd → Type 0
IsEnd words (Usage fault) = IsUsage words fault
IsEnd words NoMemory = Unit {0}

-- the answer to words, where memory is not short
abbrev pub IsAnswer : List (List ℕ) → Result Choice UsageFault → Type 0
IsAnswer words (Ok choice) = IsCommand words choice
IsAnswer words (Err fault) = IsUsage words fault

-- words have one answer
abbrev pub OneAnswer : Type 0
OneAnswer = (words : List (List ℕ)) (a b : Result Choice UsageFault) → IsAnswer words a → IsAnswer words b → a ≡ b
