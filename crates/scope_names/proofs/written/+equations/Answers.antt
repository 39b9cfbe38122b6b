use Rattle.std.proofs.Common.{◌∙◌, ap, sym, map, ◌++◌}
use Rattle.scope_names.specs.Written.{names_in, names_in_equation, joined}
use Rattle.scope_names.proofs.WrittenNodes.{names-Equal, names-Connect, names-When, adds_none, adds_then}
use Rattle.scope_names.proofs.written.+equations.Goals as goal

pub names_in_equation-returns-in_ok-names_in-in-Equal : goal.names_in_equation-returns-in_ok-names_in-in-Equal
names_in_equation-returns-in_ok-names_in-in-Equal t c =
    adds_then c.names_in-in-Equal.result _ _ _ _ _ _ (names-Equal c.args.equation.now c.in-Equal.left c.in-Equal.right c.in-Equal.is)
    c.in_ok-names_in-in-Equal.ensures c.names_in-in-Equal.ensures

pub names_in_equation-returns-in-Connect : goal.names_in_equation-returns-in-Connect
names_in_equation-returns-in-Connect t c = adds_none _ _ (names-Connect c.args.equation.now c.in-Connect.field-0 c.in-Connect.field-1 c.in-Connect.is)

pub names_in_equation-returns-in_ok-names_in-in-When : goal.names_in_equation-returns-in_ok-names_in-in-When
names_in_equation-returns-in_ok-names_in-in-When t c =
    adds_then c.names_in_equations.result _ _ _ _ _ _
    (names-When c.args.equation.now c.in-When.clock c.in-When.inside c.in-When.is ∙ ap (λ p. names_in c.in-When.clock ++ joined (map names_in_equation p)) (sym c.as_slice.ensures))
    c.in_ok-names_in-in-When.ensures c.names_in_equations.ensures
