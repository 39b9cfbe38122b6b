use Rattle.std.proofs.Common.{sym, subst}
use Rattle.class_scopes.specs.Reached.{AreReached}
use Rattle.argument_tests.proofs.rows.first_behind.Goals as goal

pub misplaced_argument-requires : goal.misplaced_argument-requires
misplaced_argument-requires c =
    subst (λ n. AreReached n.file.text.now n.file.classes.now n.chosen n.reached.items) (sym c.in_ok-scopes.ensures) c.requires
