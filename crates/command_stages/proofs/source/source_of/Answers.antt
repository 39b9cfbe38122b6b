use Rattle.std.proofs.lemmas.Result.{IfOk-weaker, IfErr-weaker}
use Rattle.command_answer.specs.Calls.{reads_in}
use Rattle.command_stages.proofs.Sources.{stress_made, file_made, file_halts}
use Rattle.command_stages.proofs.source.source_of.Goals as goal

pub returns-in_ok-generated-in-Stress-clause-made : goal.returns-in_ok-generated-in-Stress-clause-made
returns-in_ok-generated-in-Stress-clause-made g c = λ o step.
    stress_made (reads_in o) c.args.mode c.in-Stress.members c.args.name.now c.in_ok-generated-in-Stress.field-0.items c.in-Stress.is c.in_ok-generated-in-Stress.ensures.text c.in_ok-generated-in-Stress.ensures.few

pub returns-in_default : goal.returns-in_default
returns-in_default g c = record {
  made = λ o step. IfOk-weaker c.text_of.result _ _ (λ bytes made. file_made (reads_in o) c.args.name.now c.args.mode c.in_default.not-Stress bytes.items made) (c.text_of.ensures.made o step);
  few = c.text_of.ensures.few;
  ended = λ o step. IfErr-weaker c.text_of.result _ _ (λ end halts. file_halts (reads_in o) c.args.name.now c.args.mode c.in_default.not-Stress end halts) (c.text_of.ensures.ended o step);
  short = c.text_of.ensures.short;
  shelf = c.text_of.ensures.shelf;
}
