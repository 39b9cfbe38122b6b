use Rattle.std.proofs.Common.{◌∙◌, ap, sym, map}
use Rattle.scope_names.specs.Written.{connected_in, joined}
use Rattle.scope_names.proofs.WrittenNodes.{connected-Equal, connected-Connect, connected-When, adds_none, adds_two, adds_as}
use Rattle.scope_names.proofs.written.+connected.Goals as goal

pub connected_in-returns-in-Equal : goal.connected_in-returns-in-Equal
connected_in-returns-in-Equal t c = adds_none _ _ (connected-Equal c.args.equation.now c.in-Equal.field-0 c.in-Equal.field-1 c.in-Equal.is)

pub connected_in-returns-in_ok-push-in-Connect-2 : goal.connected_in-returns-in_ok-push-in-Connect-2
connected_in-returns-in_ok-push-in-Connect-2 t c =
    adds_two _ _ _ _ _ _ (connected-Connect c.args.equation.now c.in-Connect.first c.in-Connect.second c.in-Connect.is) c.in_ok-push-in-Connect.ensures.items c.in_ok-push-in-Connect-2.ensures.items

pub connected_in-returns-in-When : goal.connected_in-returns-in-When
connected_in-returns-in-When t c =
    adds_as c.connected_in_all.result _ _ _ _
    (connected-When c.args.equation.now c.in-When.field-0 c.in-When.inside c.in-When.is ∙ ap (λ p. joined (map connected_in p)) (sym c.as_slice.ensures)) c.connected_in_all.ensures
