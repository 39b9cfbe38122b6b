use Rattle.std.proofs.Common.{◌≡◌, ◌∙◌, ap, sym, subst, Some}
use Rattle.flat_instances.specs.Kept.{placed_in}
use Rattle.parameter_values.specs.Values.{of_kind}
use Rattle.parameter_values.specs.Outcomes.{answer_of, outcome}
use Rattle.flat_names.proofs.Named.{evaluated}
use Rattle.flat_names.proofs.names.Namer.evaluated.Goals as goal

pub returns : goal.returns
returns c =
    let text = c.args.self.now.file.now.text.now in
    let classes = c.args.self.now.file.now.classes.now in
    let kind = Some c.args.kind in
    c.valued.ensures ∙ ap (λ o. of_kind kind (answer_of o)) c.in_ok-outcome.ensures
    ∙ ap (λ scope. of_kind kind (answer_of (outcome text c.args.self.now.parameters.now c.args.self.now.values.now scope c.args.given.expr.now))) c.front.ensures
    ∙ evaluated text classes c.args.self.now.parameters.now c.args.self.now.values.now kind (placed_in c.args.name.now c.args.given).scope c.args.given.expr.now
