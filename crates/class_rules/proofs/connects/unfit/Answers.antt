use Rattle.std.proofs.Common.{◌∙◌, ap, sym}
use Rattle.class_scopes.specs.Places.{least}
use Rattle.class_rules.specs.N8.{unfit_in}
use Rattle.class_rules.proofs.Shapes.{out-Equal, out-Connect, out-When}
use Rattle.class_rules.proofs.connects.unfit.Goals as goal

pub returns-in-Connect : goal.returns-in-Connect
returns-in-Connect c =
    c.unfit_pair.ensures ∙ ap (λ e. least (unfit_in c.args.scopes.now.named.file.text.now c.args.scopes.now.named.file.classes.now c.args.class e)) (sym (out-Connect c.args.equation.now c.in-Connect.a c.in-Connect.b c.in-Connect.is))

pub returns-in-Equal : goal.returns-in-Equal
returns-in-Equal c =
    ap (λ e. least (unfit_in c.args.scopes.now.named.file.text.now c.args.scopes.now.named.file.classes.now c.args.class e)) (sym (out-Equal c.args.equation.now c.in-Equal.field-0 c.in-Equal.field-1 c.in-Equal.is))

pub returns-in-When : goal.returns-in-When
returns-in-When c =
    ap (λ e. least (unfit_in c.args.scopes.now.named.file.text.now c.args.scopes.now.named.file.classes.now c.args.class e)) (sym (out-When c.args.equation.now c.in-When.field-0 c.in-When.field-1 c.in-When.is))
