use Rattle.std.proofs.Common.{◌∙◌, sym, Some}
use Rattle.parameter_values.specs.Slots.{seen}
use Rattle.flat_answer.specs.Flat.{IsNameOf}
use Rattle.flat_names.proofs.Named.{adds_plain}
use Rattle.flat_names.proofs.names.Namer.add_item.Goals as goal

pub returns-in_ok-push : goal.returns-in_ok-push
returns-in_ok-push c before all =
    let text = c.args.self.now.file.now.text.now in
    let classes = c.args.self.now.file.now.classes.now in
    adds_plain text classes (IsNameOf text classes (Some c.args.self.now.chosen) (seen c.args.self.now.parameters.now c.args.self.now.values.now)) c.args.item.now c.in-Declared.variable
    before c.args.names.now c.push.new.self c.in_ok-name.field-0 c.in-Declared.is (sym c.is_fixed.ensures ∙ c.if-not-is_fixed.true) c.in_ok-push.ensures.ok all c.in_ok-name.ensures
