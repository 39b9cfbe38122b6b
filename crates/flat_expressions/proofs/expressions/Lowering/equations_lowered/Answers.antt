use Rattle.std.proofs.Common.{◌∙◌, ap, sym, subst, [], ◌<◌, ◌≤◌, ◌^◌, length, arith}
use Rattle.std.proofs.lemmas.List.Folds.{flat_map-map}
use Rattle.class_scopes.specs.Tables.{number_of}
use Rattle.flat_instances.specs.Kept as kept
use Rattle.parameter_values.specs.Slots.{seen}
use Rattle.flat_expressions.specs.Equations.{clocks_of, equations_from, groups_of}
use Rattle.flat_expressions.proofs.Groups.{adds_all, adds_more, first_few}
use Rattle.flat_expressions.proofs.expressions.Lowering.equations_lowered.Goals as goal

pub add_item-requires : goal.add_item-requires
add_item-requires c =
    let text = c.args.self.now.text.now in
    let classes = c.args.classes.now in
    let groups = groups_of text (seen c.args.self.now.parameters.now c.args.self.now.values.now) (number_of c.args.self.now.names.now) classes in
    let within : c.loop-item.item-index < length c.args.items.now = omega arith in
    let few = subst (λ all. length (clocks_of all) < 2 ^ 32) (flat_map-map groups (kept.seen text classes) c.args.items.now) c.requires in
    first_few (λ item. groups (kept.seen text classes item)) c.args.items.now c.loop-item.item-index c.item-item.result within c.item-item.is
    c.loop-item.clauses c.loop-item.invariant.1 few

pub loop-item-preserved : goal.loop-item-preserved
loop-item-preserved c =
    let text = c.args.self.now.text.now in
    let classes = c.args.classes.now in
    let groups = groups_of text (seen c.args.self.now.parameters.now c.args.self.now.values.now) (number_of c.args.self.now.names.now) classes in
    let within : c.loop-item.item-index < length c.args.items.now = omega arith in
    adds_more (λ item. groups (kept.seen text classes item)) c.args.items.now c.loop-item.item-index c.item-item.result within c.item-item.is
    [] c.loop-item.equations c.add_item.new.equations [] c.loop-item.clauses c.add_item.new.clauses
    c.loop-item.invariant c.in_ok-add_item.ensures

pub returns-clause-equations : goal.returns-clause-equations
returns-clause-equations c =
    let text = c.args.self.now.text.now in
    let classes = c.args.classes.now in
    let groups = groups_of text (seen c.args.self.now.parameters.now c.args.self.now.values.now) (number_of c.args.self.now.names.now) classes in
    let past : length c.args.items.now ≤ c.loop-item.item-index = omega arith in
    let all = adds_all (λ item. groups (kept.seen text classes item)) c.args.items.now c.loop-item.item-index [] c.loop-item.equations [] c.loop-item.clauses past c.loop-item.invariant in
    all.0 ∙ ap (equations_from 0) (sym (flat_map-map groups (kept.seen text classes) c.args.items.now))

pub returns-clause-clauses : goal.returns-clause-clauses
returns-clause-clauses c =
    let text = c.args.self.now.text.now in
    let classes = c.args.classes.now in
    let groups = groups_of text (seen c.args.self.now.parameters.now c.args.self.now.values.now) (number_of c.args.self.now.names.now) classes in
    let past : length c.args.items.now ≤ c.loop-item.item-index = omega arith in
    let all = adds_all (λ item. groups (kept.seen text classes item)) c.args.items.now c.loop-item.item-index [] c.loop-item.equations [] c.loop-item.clauses past c.loop-item.invariant in
    all.1 ∙ ap clocks_of (sym (flat_map-map groups (kept.seen text classes) c.args.items.now))
