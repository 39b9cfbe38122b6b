use Rattle.std.proofs.Common.{◌∙◌}
use Rattle.class_scopes.proofs.Classes.{numbers, repeated}
use Rattle.class_scopes.proofs.file.File.open.Goals as goal

pub invariant_of-result : goal.invariant_of-result
invariant_of-result c = record {
  numbered = numbers c.args.text.now c.args.classes.now c.as_slice.result.now (c.as_slice.ensures.value ∙ c.in_ok-spans.ensures) c.in_ok-declared.declared.table c.in_ok-declared.ensures.table;
}

pub returns-clause-repeated : goal.returns-clause-repeated
returns-clause-repeated c =
    c.in_ok-declared.ensures.repeated ∙ repeated c.args.text.now c.args.classes.now c.as_slice.result.now (c.as_slice.ensures.value ∙ c.in_ok-spans.ensures)
