use Rattle.scope_names.specs.private.Tabled.{AreTabled}
use Rattle.scope_names.proofs.scopes.tables_of.Given as goal

abbrev pub invariant-loop-class : goal.invariant-loop-class
invariant-loop-class l = AreTabled l.file.text.now l.file.classes.now l.class l.tables.items
