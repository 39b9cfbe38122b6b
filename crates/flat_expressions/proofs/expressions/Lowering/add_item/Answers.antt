use Rattle.std.proofs.Common.{◌∙◌, ap, ap₂, sym, subst, ◌+◌, ◌<◌, ◌^◌, OnOk, length}
use Rattle.class_scopes.specs.Tables.{number_of}
use Rattle.flat_instances.specs.Kept as kept
use Rattle.parameter_values.specs.Slots.{seen}
use Rattle.flat_expressions.specs.Equations.{Adds, clocks_of, groups_in, groups_of}
use Rattle.flat_expressions.proofs.expressions.Lowering.add_item.Goals as goal

pub add_equations-requires : goal.add_equations-requires
add_equations-requires c =
    let text = c.args.self.now.text.now in
    let values = seen c.args.self.now.parameters.now c.args.self.now.values.now in
    let number = number_of c.args.self.now.names.now in
    let same = ap₂ (groups_in text values number) c.as_bytes.ensures (c.equations_in.ensures text)
    ∙ ap (λ item. groups_of text values number c.args.classes.now (kept.seen text c.args.classes.now item)) (sym c.in-Own.is) in
    subst (λ groups. length c.args.clauses.now + length (clocks_of groups) < 2 ^ 32) (sym same) c.requires

pub returns-in-Own : goal.returns-in-Own
returns-in-Own c =
    let text = c.args.self.now.text.now in
    let values = seen c.args.self.now.parameters.now c.args.self.now.values.now in
    let number = number_of c.args.self.now.names.now in
    let same = ap₂ (groups_in text values number) c.as_bytes.ensures (c.equations_in.ensures text)
    ∙ ap (λ item. groups_of text values number c.args.classes.now (kept.seen text c.args.classes.now item)) (sym c.in-Own.is) in
    subst (λ groups. OnOk c.add_equations.result (Adds c.args.equations.now c.args.clauses.now groups c.add_equations.new.equations c.add_equations.new.clauses)) same
    c.add_equations.ensures
