-- How a call ends, from what was put on the sinks.
use Rattle.std.proofs.Common.{◌≡◌, ◌≢◌, refl, ap, sym, ◌∙◌, inl, inr, ℕ, List, []}
use Rattle.outside_io.specs.Texts.{grown}
use Rattle.outside_io.proofs.Growth.{grown-nil}
use Rattle.command_words.specs.Lines.{usage_line}
use Rattle.command_words.specs.declared.command.UsageFault.{UsageFault}
use Rattle.command_words.specs.declared.command.UsageFault.TheVariants as fault
use Rattle.command_answer.specs.declared.status.Status.{Status}
use Rattle.command_answer.specs.Actions.{actions}
use Rattle.command_answer.specs.Calls.{Outside, EndsWith, whole, out_failed, err_failed, IsRight, reads_in}
use Rattle.command_answer.specs.Stages.{Answer, printed}
use Rattle.command_stages.specs.declared.end.End.{End}
use Rattle.command_stages.specs.declared.end.End.TheVariants.{Usage, Refused, ReadFault, NoMemory}
use Rattle.command_stages.specs.Ends.{Halts}
use Rattle.clocked_run.specs.private.Putting.{answer_of, PutsLine, PrintsText}

usage_some : (fault : UsageFault) → usage_line fault ≢ []
usage_some fault.Words e = cc
usage_some fault.Mode e = cc
usage_some fault.Stop e = cc
usage_some fault.Workers e = cc
usage_some fault.Model e = cc

-- each early end has a line on err, and leaves out
line_some : (end : End) → (answer_of end).err ≢ []
line_some (Usage fault) e = usage_some fault e
line_some (Refused code place) e = cc
line_some (ReadFault name) e = cc
line_some NoMemory e = cc

out_none : (end : End) → (answer_of end).out ≡ []
out_none (Usage fault) = refl
out_none (Refused code place) = refl
out_none (ReadFault name) = refl
out_none NoMemory = refl

-- an answer of a stage is also one of a stage that ends so
pub weaker : (P Q : Answer → Type 0) (o : Outside) (status : Status) → ((a : Answer) → P a → Q a) → EndsWith P o status → EndsWith Q o status
weaker P Q o status more (whole a is same grew) = whole a (more a is) same grew
weaker P Q o status more (out_failed a is same failed) = out_failed a (more a is) same failed
weaker P Q o status more (err_failed a is same failed) = err_failed a (more a is) same failed

module _ (words : List (List ℕ)) (o : Outside) (status : Status) where
  right_end : (end : End) → Halts (actions (reads_in o) words) end → IsRight words o (answer_of end)
  right_end (Usage fault) halts = inl (halts (answer_of (Usage fault)) refl)
  right_end (Refused code place) halts = inl (halts (answer_of (Refused code place)) refl)
  right_end (ReadFault name) halts = inl (halts (answer_of (ReadFault name)) refl)
  right_end NoMemory halts = inr refl

  -- the command ended early, and its line was put
  pub told_early : (end : End) → Halts (actions (reads_in o) words) end → PutsLine (answer_of end).status (answer_of end).err status o.err → o.out.new ≡ o.out.old → EndsWith (IsRight words o) o status
  told_early end halts (inl (same, put)) stayed = whole (answer_of end) (right_end end halts) same (record { out_grew = stayed ∙ sym (grown-nil o.out.old) ∙ ap (λ t. grown t o.out.old) (sym (out_none end)); err_grew = put })
  told_early end halts (inr (same, rose, prefix)) stayed =
      err_failed (answer_of end) (right_end end halts) same
      (record { rose = rose; some = line_some end; out_grew = stayed ∙ sym (grown-nil o.out.old) ∙ ap (λ t. grown t o.out.old) (sym (out_none end)); err_grew = prefix })

  -- the text of a mode was put
  pub text_printed : (text : List ℕ) → (actions (reads_in o) words).ends (printed text) → PrintsText text status o.out → o.err.new ≡ o.err.old → EndsWith (IsRight words o) o status
  text_printed text is (inl (same, put)) stayed = whole (printed text) (inl is) same (record { out_grew = put; err_grew = stayed ∙ sym (grown-nil o.err.old) })
  text_printed text is (inr (same, some, rose, prefix)) stayed = out_failed (printed text) (inl is) same (record { rose = rose; some = some; out_grew = prefix; err_stayed = stayed })
