-- What the values of the arguments mean. This project's own.
use Rattle.std.specs.Prelude.{◌≡◌, ℕ, ◌*◌, ◌^◌, ◌<◌, ◌≤◌, List, Option, codes, option_map}
use Rattle.std.specs.Borrow.{Bor}
use Rattle.std.specs.Str.Parse.{digits_value}
use Rattle.rational_time.specs.declared.ratio.Ratio.{Ratio}
use Rattle.rational_time.specs.Fraction.{IsFraction, second_limit}
use Rattle.rational_time.specs.TimeText.{IsNumeral, WritesTime}
use Rattle.command_words.specs.declared.command.Command.{Command}
use Rattle.command_words.specs.declared.command.Mode.{Mode}
use Rattle.command_words.specs.declared.command.Mode.TheVariants.{Run, Flat, Clocks, Stress}
use Rattle.command_words.specs.declared.command.UsageFault.{UsageFault}
use Rattle.command_words.specs.declared.command.UsageFault.TheVariants as misfit

-- the values of the arguments, as texts
pub record Texts : Type 0 where
  pub model : List ℕ
  pub stop : List ℕ
  pub table : Option (List ℕ)
  pub class : Option (List ℕ)
  pub workers : List ℕ
  pub mode : List ℕ

-- what a command asks for
pub record Choice : Type 0 where
  pub model : List ℕ
  pub stop : Ratio
  pub table : Option (List ℕ)
  pub class : Option (List ℕ)
  pub workers : ℕ
  pub mode : Mode

-- a command, with its texts as lists of bytes
abbrev pub choice_of : Command → Choice
choice_of c = record {
  model = c.model.now;
  stop = c.stop;
  table = option_map (λ (s : Bor (List ℕ)). s.now) c.table;
  class = option_map (λ (s : Bor (List ℕ)). s.now) c.class;
  workers = c.workers;
  mode = c.mode;
}

-- the name of a mode
abbrev pub mode_name : Mode → List ℕ
mode_name Run = codes "run"
mode_name Flat = codes "flat"
mode_name Clocks = codes "clocks"
mode_name (Stress n) = codes "stress"

-- a text writes a stop: a time of parts that are not too large, below 2^20 seconds
pub record IsStop (text : List ℕ) (stop : Ratio) : Type 0 where
  pub num : ℕ
  pub den : ℕ
  pub writes : WritesTime text num den
  pub value : IsFraction stop num den
  pub num_fits : stop.num < 2 ^ 60
  pub den_fits : stop.den < 2 ^ 32
  pub early : stop.num < second_limit * stop.den

-- a text writes a number of workers: 1 to 9 decimal digits of a value from 1 to 64
pub record IsWorkers (text : List ℕ) (workers : ℕ) : Type 0 where
  pub numeral : IsNumeral 9 text
  pub value : workers ≡ digits_value 10 text
  pub some : 1 ≤ workers
  pub few : workers ≤ 64

-- a text writes a number of members of the stress model: 1 to 4 decimal digits of a value from 1 to 1,000
pub record IsMembers (text : List ℕ) (members : ℕ) : Type 0 where
  pub numeral : IsNumeral 4 text
  pub value : members ≡ digits_value 10 text
  pub some : 1 ≤ members
  pub few : members ≤ 1000

-- a name is of a mode; beside that of the stress model stands its number of members, and else the name of a file
abbrev pub IsMode : List ℕ → List ℕ → Mode → Type 0
IsMode name model (Stress n) = (name ≡ codes "stress") × IsMembers model n
IsMode name model mode = name ≡ mode_name mode

-- the values mean the choice
pub record IsChoice (texts : Texts) (choice : Choice) : Type 0 where
  pub mode : IsMode texts.mode texts.model choice.mode
  pub stop : IsStop texts.stop choice.stop
  pub workers : IsWorkers texts.workers choice.workers
  pub model : choice.model ≡ texts.model
  pub table : choice.table ≡ texts.table
  pub class : choice.class ≡ texts.class

-- the values mean no choice, and the first that does not fit is told: the mode, then the stop, then the workers, then the members of the stress model
pub data IsMisfit (texts : Texts) (fault : UsageFault) : Type 0 where
  no_mode : ((mode : Mode) → texts.mode ≡ mode_name mode → ⊥) → fault ≡ misfit.Mode → IsMisfit texts fault
  no_stop : (mode : Mode) → texts.mode ≡ mode_name mode
      → ((stop : Ratio) → IsStop texts.stop stop → ⊥) → fault ≡ misfit.Stop → IsMisfit texts fault
  no_workers : (mode : Mode) → texts.mode ≡ mode_name mode → (stop : Ratio) → IsStop texts.stop stop
      → ((workers : ℕ) → IsWorkers texts.workers workers → ⊥) → fault ≡ misfit.Workers → IsMisfit texts fault
  no_members : texts.mode ≡ codes "stress" → (stop : Ratio) → IsStop texts.stop stop → (workers : ℕ) → IsWorkers texts.workers workers
      → ((members : ℕ) → IsMembers texts.model members → ⊥) → fault ≡ misfit.Model → IsMisfit texts fault
