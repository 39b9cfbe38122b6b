use Rattle.std.proofs.Common.{◌≡◌, ◌∙◌, ap, sym, rules, Some, None, []}
use Rattle.csv.specs.Records.{fields_of, field_at}
use Rattle.input_table.specs.Fields.{without_last_blanks}
use Rattle.input_table.proofs.Texts.{text_is, no_text}
use Rattle.input_table.proofs.fields.text_in.Goals as goal

pub returns-in-Some : goal.returns-in-Some
returns-in-Some c =
    let found : field_at (fields_of c.args.row.now) c.args.column ≡ Some c.in-Some.field.now = sym c.in-Some.ensures.value in
    c.without_end.ensures ∙ ap without_last_blanks c.without_front.ensures ∙ text_is (fields_of c.args.row.now) c.args.column c.in-Some.field.now found

pub returns-in-None : goal.returns-in-None
returns-in-None c =
    let found : field_at (fields_of c.args.row.now) c.args.column ≡ None = sym c.in-None.ensures.value in
    let empty : c.as_slice.result.now ≡ [] = search rules in
    empty ∙ no_text (fields_of c.args.row.now) c.args.column found
