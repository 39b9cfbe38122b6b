use Rattle.std.proofs.Common.{◌<◌, ◌≤◌, ◌≡◌, ◌++◌, ◌∙◌, ap, sym, subst, length, flat_map, take, Some, arith, ◌+◌}
use Rattle.std.specs.List.{AllZip}
use Rattle.std.proofs.lemmas.List.{take_all}
use Rattle.class_scopes.proofs.Leasts.{one_more}
use Rattle.parameter_values.specs.Slots.{seen}
use Rattle.flat_answer.specs.Flat.{IsNameOf}
use Rattle.flat_names.specs.private.Naming.{plain_in}
use Rattle.flat_names.proofs.Named.{plain_all}
use Rattle.flat_names.proofs.names.Namer.names.Goals as goal

pub loop-item-preserved : goal.loop-item-preserved
loop-item-preserved c =
    let text = c.args.self.now.file.now.text.now in
    let classes = c.args.self.now.file.now.classes.now in
    let within : c.loop-item.item-index < length c.args.items.now = omega arith in
    subst (λ vs. AllZip (IsNameOf text classes (Some c.args.self.now.chosen) (seen c.args.self.now.parameters.now c.args.self.now.values.now)) vs c.add_item.new.names)
    (sym (one_more (plain_in text classes) c.args.items.now c.loop-item.item-index c.item-item.result within c.item-item.is))
    (c.in_ok-add_item.ensures _ c.loop-item.invariant)

pub returns : goal.returns
returns c =
    let text = c.args.self.now.file.now.text.now in
    let classes = c.args.self.now.file.now.classes.now in
    let past : length c.args.items.now ≤ c.loop-item.item-index = omega arith in
    subst (λ vs. AllZip (IsNameOf text classes (Some c.args.self.now.chosen) (seen c.args.self.now.parameters.now c.args.self.now.values.now)) vs c.loop-item.names)
    (ap (flat_map (plain_in text classes)) (take_all c.loop-item.item-index c.args.items.now past) ∙ plain_all text classes c.args.items.now)
    c.loop-item.invariant
