use Rattle.std.proofs.Common.{ap, ◌∙◌, [], ◌∷◌, ◌++◌}
use Rattle.type_tests.proofs.TestModels.{used_by_second}
use Rattle.type_tests.proofs.clauses.model.Goals as goal

pub returns-clause-used : goal.returns-clause-used
returns-clause-used c =
    let first = c.in_ok-equations.ensures in
    let second = c.in_ok-equations-2.ensures in
    let third = c.in_ok-equations-3.ensures in
    used_by_second
    (record { names = c.in_ok-names.names; equations = c.in_ok-equations-3.equations; clauses = c.push.new.self })
    first.0 second.0 third.0 c.in_ok-clock.field-0
    (third.1 ∙ ap (λ xs. xs ++ third.0 ∷ []) (second.1 ∙ ap (λ xs. xs ++ second.0 ∷ []) (first.1 ∙ ap (λ xs. xs ++ first.0 ∷ []) c.new.ensures)))
    (c.in_ok-push.ensures.ok ∙ ap (λ xs. xs ++ c.in_ok-clock.field-0 ∷ []) c.new-clauses.ensures)
    second.2
