use Rattle.std.proofs.Common.{◌≡◌, ◌∙◌, ap, sym, Some}
use Rattle.class_scopes.specs.Types.{kind_of}
use Rattle.flat_instances.specs.Kept.{seen_variable}
use Rattle.parameter_values.specs.Values.{value_by}
use Rattle.parameter_values.specs.Slots.{seen}
use Rattle.flat_answer.specs.Flat.{start_of}
use Rattle.flat_names.proofs.names.Namer.name.Goals as goal

pub returns : goal.returns
returns c =
    let text = c.args.self.now.file.now.text.now in
    let classes = c.args.self.now.file.now.classes.now in
    let kind : kind_of text classes c.args.variable.now.type_name ≡ Some c.in-Some.kind = sym c.kind_of.ensures ∙ c.in-Some.is in
    record {
      text_is = c.in_ok-text.ensures ∙ c.as_bytes.ensures;
      kind_is = kind;
      start_is =
          ap (λ k. start_of c.in-Some.kind (value_by text classes (seen c.args.self.now.parameters.now c.args.self.now.values.now) k (seen_variable text classes c.args.variable.now).start)) kind
          ∙ sym c.in_ok-start.ensures ∙ c.in-Some-2.is;
      input_is = c.is_input-input.ensures;
    }
