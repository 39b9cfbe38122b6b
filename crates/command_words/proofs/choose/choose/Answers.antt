use Rattle.std.proofs.Common.{ap, refl, subst, sym, ◌∙◌}
use Rattle.command_words.specs.Choice.{IsStop, IsWorkers}
use Rattle.command_words.specs.Choice.IsMisfit.{no_stop, no_workers, no_members}
use Rattle.command_words.specs.private.Given.{word_of}
use Rattle.command_words.proofs.Modes.{mode_named}
use Rattle.command_words.proofs.choose.choose.Goals as goal

pub returns-in_default-read_stop-clause-misfit : goal.returns-in_default-read_stop-clause-misfit
returns-in_default-read_stop-clause-misfit c =
    let named = mode_named c.in-Some.word in
    no_stop named.0 (c.in-Some.ensures ∙ named.1)
    (λ stop is. c.in_default-read_stop.ensures stop (subst (λ t. IsStop t stop) (sym c.as_bytes.ensures.value) is)) refl

pub returns-in_default-read_workers-clause-misfit : goal.returns-in_default-read_workers-clause-misfit
returns-in_default-read_workers-clause-misfit c =
    let named = mode_named c.in-Some.word in
    no_workers named.0 (c.in-Some.ensures ∙ named.1) c.in-Some-read_stop.stop
    (subst (λ t. IsStop t c.in-Some-read_stop.stop) c.as_bytes.ensures.value c.in-Some-read_stop.ensures)
    (λ workers is. c.in_default-read_workers.ensures workers (subst (λ t. IsWorkers t workers) (sym c.as_bytes-2.ensures.value) is)) refl

pub returns-in_default-mode_of-clause-misfit : goal.returns-in_default-mode_of-clause-misfit
returns-in_default-mode_of-clause-misfit c =
    let stress = c.in_default-mode_of.ensures.0 in
    no_members (c.in-Some.ensures ∙ ap word_of stress) c.in-Some-read_stop.stop
    (subst (λ t. IsStop t c.in-Some-read_stop.stop) c.as_bytes.ensures.value c.in-Some-read_stop.ensures) c.in-Some-read_workers.workers
    (subst (λ t. IsWorkers t c.in-Some-read_workers.workers) c.as_bytes-2.ensures.value c.in-Some-read_workers.ensures)
    c.in_default-mode_of.ensures.1 refl
