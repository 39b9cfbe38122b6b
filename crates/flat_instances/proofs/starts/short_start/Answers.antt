use Rattle.std.proofs.Common.{sym, ap, ◌∙◌}
use Rattle.std.specs.Option.{option_copied}
use Rattle.flat_instances.proofs.ShortStarts.{short_given}
use Rattle.flat_instances.proofs.starts.short_start.Goals as goal

pub returns-in-Some-short_expr : goal.returns-in-Some-short_expr
returns-in-Some-short_expr c name =
    short_given c.args.file.now.text.now c.args.file.now.classes.now c.args.type_name c.in-Class.class c.in-Class.is c.in-Some.short.now _
    (sym c.short_of.ensures ∙ ap option_copied c.in-Some.is) (sym (ap option_copied c.in-Some-short_expr.is) ∙ c.short_expr.ensures)

pub returns-in-None-short_expr : goal.returns-in-None-short_expr
returns-in-None-short_expr c name =
    short_given c.args.file.now.text.now c.args.file.now.classes.now c.args.type_name c.in-Class.class c.in-Class.is c.in-Some.short.now _
    (sym c.short_of.ensures ∙ ap option_copied c.in-Some.is) (sym (ap option_copied c.in-None-short_expr.is) ∙ c.short_expr.ensures)
