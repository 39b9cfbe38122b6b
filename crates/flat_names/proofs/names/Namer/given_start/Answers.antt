use Rattle.std.proofs.Common.{◌≡◌, ◌∙◌, ap, sym, subst, Some, option_map}
use Rattle.std.specs.Result.{IfOk}
use Rattle.flat_instances.specs.Kept.{placed_in, seen_variable}
use Rattle.parameter_values.specs.Values.{value_by}
use Rattle.parameter_values.specs.Slots.{seen}
use Rattle.flat_names.proofs.names.Namer.given_start.Goals as goal

pub returns-in-Some : goal.returns-in-Some
returns-in-Some c =
    let text = c.args.self.now.file.now.text.now in
    let classes = c.args.self.now.file.now.classes.now in
    subst (λ p. IfOk c.evaluated.result (λ v. v ≡ value_by text classes (seen c.args.self.now.parameters.now c.args.self.now.values.now) (Some c.args.kind) p))
    (ap (λ n. Some (placed_in n c.in-Some.given)) c.as_bytes.ensures ∙ sym (ap (option_map (placed_in c.args.variable.now.name)) c.in-Some.is) ∙ c.start_of-given.ensures)
    c.evaluated.ensures

pub returns-in-None : goal.returns-in-None
returns-in-None c =
    let text = c.args.self.now.file.now.text.now in
    let classes = c.args.self.now.file.now.classes.now in
    c.zero.ensures ∙ ap (value_by text classes (seen c.args.self.now.parameters.now c.args.self.now.values.now) (Some c.args.kind))
    (sym (ap (option_map (placed_in c.args.variable.now.name)) c.in-None.is) ∙ c.start_of-given.ensures)
