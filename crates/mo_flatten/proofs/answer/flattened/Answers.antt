use Rattle.std.proofs.Common.{sym, subst, Some, Err}
use Rattle.flat_answer.specs.Answers.{Answers}
use Rattle.mo_flatten.proofs.Faulted.{answers_end}
use Rattle.mo_flatten.proofs.answer.flattened.Goals as goal

pub returns-in-Err : goal.returns-in-Err
returns-in-Err c =
    let named = c.args.scopes.now.named in
    subst (λ e. Answers named.file.text.now named.file.classes.now (Some named.chosen) (Err e)) (sym c.placed.ensures)
    (answers_end named.file.text.now named.file.classes.now (Some named.chosen) c.in-Err.end c.in-Err.ensures)
