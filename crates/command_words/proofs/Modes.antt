-- The word of a mode is its name.
use Rattle.std.proofs.Common.{◌≡◌, refl}
use Rattle.command_words.specs.declared.command.Mode.{Mode}
use Rattle.command_words.specs.declared.command.Mode.TheVariants.{Run, Flat, Clocks, Stress}
use Rattle.command_words.specs.declared.mode.ModeWord.{ModeWord}
use Rattle.command_words.specs.declared.mode.ModeWord.TheVariants as word
use Rattle.command_words.specs.Choice.{mode_name}
use Rattle.command_words.specs.private.Given.{word_of}

pub mode_named : (w : ModeWord) → (mode : Mode) × (word_of w ≡ mode_name mode)
mode_named word.Run = (Run, refl)
mode_named word.Flat = (Flat, refl)
mode_named word.Clocks = (Clocks, refl)
mode_named word.Stress = (Stress 0, refl)
