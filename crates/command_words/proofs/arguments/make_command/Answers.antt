use Rattle.std.proofs.Common.{◌∙◌, ap₂}
use Rattle.std.proofs.lemmas.Result.{IfOk-weaker}
use Rattle.clap.specs.Words.{with_rule}
use Rattle.command_words.specs.Words.{clockrun}
use Rattle.command_words.proofs.arguments.make_command.Goals as goal

-- each argument is added to what the command was
pub returns : goal.returns
unfolding clockrun
returns c =
    let first = c.in_ok-arg.ensures.shape c.model_arg.ensures.local ∙ ap₂ with_rule c.bare_command.ensures c.model_arg.ensures.rule in
    let second = c.in_ok-arg-2.ensures.shape c.stop_arg.ensures.local ∙ ap₂ with_rule first c.stop_arg.ensures.rule in
    let third = c.in_ok-arg-3.ensures.shape c.option_arg.ensures.local ∙ ap₂ with_rule second c.option_arg.ensures.rule in
    let fourth = c.in_ok-arg-4.ensures.shape c.option_arg-2.ensures.local ∙ ap₂ with_rule third c.option_arg-2.ensures.rule in
    let fifth = c.in_ok-arg-5.ensures.shape c.workers_arg.ensures.local ∙ ap₂ with_rule fourth c.workers_arg.ensures.rule in
    IfOk-weaker c.arg-6.result _ _ (λ r h. h.shape c.mode_arg.ensures.local ∙ ap₂ with_rule fifth c.mode_arg.ensures.rule) c.arg-6.ensures
