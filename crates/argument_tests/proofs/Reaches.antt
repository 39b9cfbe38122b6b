-- What the names of a file promise of its classes.
use Rattle.std.proofs.Common.{◌≡◌, sym, subst, ℕ, List, Option, Result, Ok}
use Rattle.mo_parser.specs.declared.tree.ClassDef.{ClassDef}
use Rattle.class_scopes.specs.declared.end.RuleEnd.{RuleEnd}
use Rattle.class_scopes.specs.declared.named.Named.{Named}
use Rattle.class_scopes.specs.Names.{AreNamed, Names}
use Rattle.class_scopes.specs.Reached.{AreReached}

pub reaches : (text : List ℕ) (classes : List ClassDef) (choice : Option ℕ) (result : Result Named RuleEnd) (named : Named) → Names text classes choice result → result ≡ Ok named
    → AreReached named.file.text.now named.file.classes.now named.chosen named.reached.items
reaches text classes choice result named told is =
    let are : AreNamed text classes choice named = subst (Names text classes choice) is told in
    subst (λ t. AreReached t named.file.classes.now named.chosen named.reached.items) (sym are.text_is)
    (subst (λ c. AreReached text c named.chosen named.reached.items) (sym are.classes_are) are.reached)
