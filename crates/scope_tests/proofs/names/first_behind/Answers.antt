use Rattle.std.proofs.Common.{sym, subst}
use Rattle.class_scopes.specs.Reached.{AreReached}
use Rattle.scope_tests.proofs.names.first_behind.Goals as goal

pub first_of_scopes-requires : goal.first_of_scopes-requires
first_of_scopes-requires c =
    subst (λ n. AreReached n.file.text.now n.file.classes.now n.chosen n.reached.items) (sym c.in_ok-scopes.ensures) c.requires
