use Rattle.std.proofs.Common.{◌≤◌, ◌^◌, length, sym, subst, option_map, Err}
use Rattle.mo_lexer.specs.Tokens.{HasTokens}
use Rattle.class_scopes.specs.Reached.{chosen_by}
use Rattle.flat_answer.specs.Answers.{Answers}
use Rattle.mo_flatten.proofs.Faulted.{answers_end}
use Rattle.mo_flatten.proofs.Limited.{raw_answer}
use Rattle.mo_flatten.proofs.Staged.{returned}
use Rattle.mo_flatten.proofs.answer.flatten.Goals as goal

pub flattened-requires : goal.flattened-requires
flattened-requires c =
    let are = c.in-Ok.ensures in
    record {
      size = subst (λ t. length t ≤ 2 ^ 20) (sym are.text_is) c.requires.size;
      tokens = subst HasTokens (sym are.text_is) (c.requires.tree.0, c.requires.tree.1);
      scoped = are.scoped;
    }

pub returns-in-Ok-clause-answer : goal.returns-in-Ok-clause-answer
returns-in-Ok-clause-answer c =
    let text = c.args.text.now in
    let classes = c.as_slice.result.now in
    let scopes = c.in-Ok.scopes in
    let are = c.in-Ok.ensures in
    let choice = chosen_by text classes (option_map (λ name. name.now) c.bytes_of.result) in
    let here = returned text scopes.named.file.text.now classes scopes.named.file.classes.now choice scopes.named.chosen are.text_is are.classes_are are.chosen
    (λ t cs o. Answers t cs o c.flattened.result) c.flattened.ensures in
    subst (λ name. Answers text c.args.tree.now.classes (chosen_by text c.args.tree.now.classes name) c.flattened.result) c.bytes_of.ensures
    (subst (λ cs. Answers text cs (chosen_by text cs (option_map (λ name. name.now) c.bytes_of.result)) c.flattened.result) c.as_slice.ensures here)

pub returns-in-Err-clause-answer : goal.returns-in-Err-clause-answer
returns-in-Err-clause-answer c =
    let text = c.args.text.now in
    let classes = c.as_slice.result.now in
    let choice = chosen_by text classes (option_map (λ name. name.now) c.bytes_of.result) in
    let here = subst (λ e. Answers text classes choice (Err e)) (sym c.placed.ensures) (answers_end text classes choice c.in-Err.end c.in-Err.ensures) in
    subst (λ name. Answers text c.args.tree.now.classes (chosen_by text c.args.tree.now.classes name) (Err c.placed.result)) c.bytes_of.ensures
    (subst (λ cs. Answers text cs (chosen_by text cs (option_map (λ name. name.now) c.bytes_of.result)) (Err c.placed.result)) c.as_slice.ensures here)

pub returns-in-Ok-clause-raw : goal.returns-in-Ok-clause-raw
returns-in-Ok-clause-raw c =
    let text = c.args.text.now in
    let tree = c.args.tree.now in
    raw_answer text tree c.requires.tree (chosen_by text tree.classes (option_map (λ name. name.now) c.args.class)) c.flattened.result (returns-in-Ok-clause-answer c)
