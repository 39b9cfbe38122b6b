use Rattle.std.proofs.Common.{sym, subst, map, Some, Err}
use Rattle.class_scopes.specs.Tables.{Numbered}
use Rattle.flat_answer.specs.Answers.{Answers}
use Rattle.flat_instances.specs.Instances.{variables}
use Rattle.flat_instances.specs.Kept.{seen}
use Rattle.parameter_values.specs.Slots as slots
use Rattle.value_rules.specs.Faults as faults
use Rattle.mo_flatten.proofs.Valued.{has_few_names, has_few_clauses, answers_fault, answers_model}
use Rattle.mo_flatten.proofs.answer.valued.Goals as goal

pub returns-in-Some : goal.returns-in-Some
returns-in-Some c =
    let scopes = c.args.scopes.now in
    let text = scopes.named.file.text.now in
    let classes = scopes.named.file.classes.now in
    let values = c.in_ok-values.values in
    subst (λ e. Answers text classes (Some scopes.named.chosen) (Err e)) (sym (c.in_ok-end-in-Some.ensures text classes))
    (answers_fault scopes c.args.items.now c.requires.items values.table values.found.items c.in-Some.fault
    (subst (faults.Answers text values.table values.found.items classes (variables text classes (map (seen text classes) c.args.items.now))) c.in-Some.is c.in_ok-values.ensures.fault))

pub model_of-requires : goal.model_of-requires
model_of-requires c = record {
  names = has_few_names c.args.scopes.now c.args.items.now c.requires.items c.requires.tokens;
  clauses = has_few_clauses c.args.scopes.now c.args.items.now c.requires.items c.requires.tokens;
}

pub returns : goal.returns
returns c =
    let scopes = c.args.scopes.now in
    let text = scopes.named.file.text.now in
    let classes = scopes.named.file.classes.now in
    let values = c.in_ok-values.values in
    answers_model scopes c.args.items.now c.requires.items values.table values.found.items (slots.seen values.table values.found.items) c.in_ok-model-in-None.model
    (subst (faults.Answers text values.table values.found.items classes (variables text classes (map (seen text classes) c.args.items.now))) c.in-None.is c.in_ok-values.ensures.fault)
    c.in_ok-values.ensures.are c.in_ok-model-in-None.ensures
