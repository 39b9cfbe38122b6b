use Rattle.std.proofs.Common.{◌∙◌}
use Rattle.class_scopes.proofs.Firsts.{elements_repeated, elements_tabled}
use Rattle.class_scopes.proofs.name_rules.declared_in.Goals as goal

pub returns-clause-table : goal.returns-clause-table
returns-clause-table c =
    elements_tabled c.args.file.now.text.now c.args.file.now.classes.now c.args.class c.as_slice.result.now c.elements_of.result.now c.in_ok-declared.declared.table
    c.elements_of.ensures (c.as_slice.ensures.value ∙ c.in_ok-spans.ensures) c.in_ok-declared.ensures.table

pub returns-clause-repeated : goal.returns-clause-repeated
returns-clause-repeated c =
    c.in_ok-declared.ensures.repeated ∙ elements_repeated c.args.file.now.text.now c.args.file.now.classes.now c.args.class c.as_slice.result.now c.elements_of.result.now
    c.elements_of.ensures (c.as_slice.ensures.value ∙ c.in_ok-spans.ensures)
