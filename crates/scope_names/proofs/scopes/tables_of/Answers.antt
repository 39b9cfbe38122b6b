use Rattle.scope_names.proofs.Scoped.{more_tabled}
use Rattle.scope_names.proofs.scopes.tables_of.Goals as goal

pub loop-class-preserved : goal.loop-class-preserved
loop-class-preserved c =
    more_tabled c.args.file.now.text.now c.args.file.now.classes.now c.loop-class.class c.loop-class.tables.items c.push.new.self.items c.in_ok-declared.declared.table
    c.loop-class.invariant c.in_ok-declared.ensures.table c.in_ok-push.ensures.items
