-- The modes that print a model or its clocks.
use Rattle.std.proofs.Common.{◌≡◌, ap, inl, inr, ℕ, List}
use Rattle.flat_model.specs.declared.clock.Clocking.{Clocking}
use Rattle.flat_model.specs.declared.model.FlatModel.{FlatModel}
use Rattle.command_words.specs.declared.command.Mode.TheVariants.{Flat, Clocks}
use Rattle.trace_print.specs.Modes.{flat_text, clocks_text}
use Rattle.command_answer.specs.Actions.{clocking_of, in_mode}
use Rattle.command_answer.specs.Stages.{◌>>=◌, ends_with, printed}
use Rattle.command_stages.specs.declared.end.End.{End}
use Rattle.command_stages.specs.Ends.{Halts}
use Rattle.command_stages.specs.Segments.{HaltsIn, PrintsIn}

pub flat_prints : (flat : FlatModel) (text : List ℕ) → text ≡ flat_text flat → PrintsIn Flat flat text
unfolding in_mode ends_with
flat_prints flat text same o c = ap printed same

pub clocks_print : (flat : FlatModel) (clocking : Clocking) (text : List ℕ) → (clocking_of flat).makes clocking → text ≡ clocks_text flat clocking → PrintsIn Clocks flat text
unfolding in_mode ends_with ◌>>=◌
clocks_print flat clocking text made same o c = inr (clocking, made, ap printed same)

pub clocks_halt : (flat : FlatModel) (end : End) → Halts (clocking_of flat) end → HaltsIn Clocks flat end
unfolding in_mode ends_with ◌>>=◌
clocks_halt flat end halts o c answer is = inl (halts answer is)
