use Rattle.std.proofs.Common.{◌≡◌, rules, subst, w64, to_z, of_z}
use Rattle.sync_values.specs.declared.value.Value.TheVariants as value
use Rattle.flat_model.specs.declared.model.NameKind.TheVariants as kind
use Rattle.input_table.specs.Fields.{IsValue}
use Rattle.input_table.proofs.Numbers.{integer_is, no_text}
use Rattle.input_table.proofs.fields.long_integer_of.Goals as goal

pub returns-in-Err : goal.returns-in-Err
returns-in-Err c v is = no_text c.args.text.now c.in-Err.ensures.cases.0 v is

pub returns-in-Ok-parse : goal.returns-in-Ok-parse
returns-in-Ok-parse c =
    let whole : to_z w64 (of_z w64 c.in-Ok-parse.number) ≡ c.in-Ok-parse.number = search rules in
    let is = rw c.in-Ok-parse.is at (integer_is c.in-Ok.text.now c.parse.result c.parse.ensures.value.0) in
    rw whole (subst (λ t. IsValue t kind.Integer (value.Int c.in-Ok-parse.number)) c.in-Ok.ensures.cases.0 is)
