-- The call, by what is left to do of its command.
use Rattle.std.proofs.Common.{◌≡◌, refl, inl, inr, ℕ, ◌≤◌, ◌⊎◌, List, arith}
use Rattle.command_answer.specs.declared.status.Status.{Status}
use Rattle.command_answer.specs.Actions.{Runs, actions}
use Rattle.command_answer.specs.Calls.{Outside, IsRight, reads_in, no_memory}
use Rattle.command_answer.specs.Stages.{Answer, printed}
use Rattle.command_stages.specs.declared.end.End.{End}
use Rattle.command_stages.specs.Ends.{Halts}
use Rattle.command_stages.specs.Reading.{IsStepOf, KeepsShelf}
use Rattle.flat_model.specs.Setting.{Setting}
use Rattle.run_tally.specs.Tallies.{AddsUp}
use Rattle.run_trace.specs.Planned.{IsPlannedRun}
use Rattle.run_trace.specs.Printing.{EndsOn}
use Rattle.run_trace.specs.declared.model.PlannedRun.{PlannedRun}
use Rattle.clocked_run.specs.declared.task.Task.TheVariants.{Run, Stress}
use Rattle.clocked_run.specs.TopCall.{TopCall}
use Rattle.clocked_run.specs.private.Putting.{answer_of, PutsLine, PrintsText}
use Rattle.clocked_run.specs.private.Tasks.{CanRun, Ends}
use Rattle.clocked_run.proofs.Causes.{top_call}
use Rattle.clocked_run.proofs.Ending.{weaker, told_early, text_printed}

-- all reads are steps of the call
abbrev InCall : Outside → (Outside → Type 0) → Type 0
InCall o P = (p : Outside) → IsStepOf p o.held o.empty o.faults o.faults_after → P p

itself : (o : Outside) → IsStepOf o o.held o.empty o.faults o.faults_after
itself o = record { holds = refl; flag = refl; since = λ name. omega arith; until = λ name. omega arith }

module _ (words : List (List ℕ)) (o : Outside) (status : Status) (shelf : KeepsShelf o.held o.held_after o.empty o.empty_after o.faults o.faults_after)
    (counts : (o.out.before ≤ o.out.after) × (o.err.before ≤ o.err.after)) where
  pub early_call : (end : End) → InCall o (λ p. Halts (actions (reads_in p) words) end) → PutsLine (answer_of end).status (answer_of end).err status o.err → o.out.new ≡ o.out.old → TopCall words o status
  early_call end halts puts stayed = top_call words o status (told_early words o status end (halts o (itself o)) puts stayed) shelf counts

  pub text_call : (text : List ℕ) → InCall o (λ p. (actions (reads_in p) words).ends (printed text)) → PrintsText text status o.out → o.err.new ≡ o.err.old → TopCall words o status
  text_call text ends puts stayed = top_call words o status (text_printed words o status text (ends o (itself o)) puts stayed) shelf counts

  pub run_call : (run : PlannedRun) → InCall o (λ p. Ends (actions (reads_in p) words) (Run run)) → CanRun run
      → ((s : Setting) → IsPlannedRun run s → EndsOn (λ answer. Runs s answer ⊎ (answer ≡ no_memory)) o.out o.err status) → TopCall words o status
  run_call run ends can prints = let (s, is) = can.1 in
      top_call words o status (weaker (λ answer. Runs s answer ⊎ (answer ≡ no_memory)) (IsRight words o) o status (right s is) (prints s is o refl refl)) shelf counts
    where
      right : (s : Setting) → IsPlannedRun run s → (a : Answer) → Runs s a ⊎ (a ≡ no_memory) → IsRight words o a
      right s is a (inl runs) = inl (ends o (itself o) s is a runs)
      right s is a (inr e) = inr e

  pub stress_call : (members : ℕ) (run : PlannedRun) → InCall o (λ p. Ends (actions (reads_in p) words) (Stress members run)) → CanRun run
      → ((s : Setting) → IsPlannedRun run s → EndsOn (λ answer. AddsUp members s answer ⊎ (answer ≡ no_memory)) o.out o.err status) → TopCall words o status
  stress_call members run ends can prints = let (s, is) = can.1 in
      top_call words o status (weaker (λ answer. AddsUp members s answer ⊎ (answer ≡ no_memory)) (IsRight words o) o status (right s is) (prints s is o refl refl)) shelf counts
    where
      right : (s : Setting) → IsPlannedRun run s → (a : Answer) → AddsUp members s a ⊎ (a ≡ no_memory) → IsRight words o a
      right s is a (inl adds) = inl (ends o (itself o) s is a adds)
      right s is a (inr e) = inr e
