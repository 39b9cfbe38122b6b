use Rattle.std.proofs.Common.{◌≡◌, ap, subst, map, length, Some, arith}
use Rattle.class_scopes.specs.Tables.{IsTableOf, number_of}
use Rattle.connection_equations.specs.Connections.{pairs}
use Rattle.connection_equations.specs.Sets.{AreEquations}
use Rattle.flat_instances.specs.Kept.{seen}
use Rattle.parameter_values.specs.Slots as slots
use Rattle.mo_flatten.specs.private.Models.{named}
use Rattle.mo_flatten.proofs.Modelled.{as_many, modelled}
use Rattle.mo_flatten.proofs.model.model_of.Goals as goal

pub lowered_of-requires-clause-few : goal.lowered_of-requires-clause-few
lowered_of-requires-clause-few c =
    let text = c.args.scopes.now.named.file.text.now in
    let classes = c.args.scopes.now.named.file.classes.now in
    let items = map (seen text classes) c.args.items.now in
    let many = as_many text classes (Some c.args.scopes.now.named.chosen) (slots.seen c.args.values.now.table c.args.values.now.found.items) (named c.args.scopes.now items) c.in_ok-names.names c.in_ok-names.ensures in
    let at : length c.as_slice-2.result.now ≡ length c.in_ok-names.names = ap length c.as_slice-2.ensures in
    omega (arith, c.requires.names, many, at)

pub connections_of-requires-clause-few : goal.connections_of-requires-clause-few
connections_of-requires-clause-few c =
    let text = c.args.scopes.now.named.file.text.now in
    let classes = c.args.scopes.now.named.file.classes.now in
    let items = map (seen text classes) c.args.items.now in
    let many = as_many text classes (Some c.args.scopes.now.named.chosen) (slots.seen c.args.values.now.table c.args.values.now.found.items) (named c.args.scopes.now items) c.in_ok-names.names c.in_ok-names.ensures in
    let at : length c.as_slice-3.result.now ≡ length c.in_ok-names.names = ap length c.as_slice-3.ensures in
    omega (arith, c.requires.names, many, at)

pub returns : goal.returns
returns c =
    let text = c.args.scopes.now.named.file.text.now in
    let classes = c.args.scopes.now.named.file.classes.now in
    let items = map (seen text classes) c.args.items.now in
    modelled c.args.scopes.now items (slots.seen c.args.values.now.table c.args.values.now.found.items) c.in_ok-names.names c.in_ok-numbers.numbers.table c.in_ok-names.ensures
    (subst (λ names. IsTableOf (map (λ name. name.text) names) c.in_ok-numbers.numbers.table) c.as_slice.ensures c.in_ok-numbers.ensures.table)
    c.in_ok-equations.equations c.in_ok-lowered.lowered.equations c.in_ok-connections.connections c.in_ok-lowered.lowered.clauses c.in_ok-lowered.ensures.equations c.in_ok-lowered.ensures.clauses
    (subst (λ names. AreEquations (length names) (pairs text classes (number_of c.in_ok-numbers.numbers.table) items) c.in_ok-connections.connections) c.as_slice-3.ensures c.in_ok-connections.ensures)
    c.in_ok-equations.ensures
