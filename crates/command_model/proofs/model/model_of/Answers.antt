use Rattle.std.proofs.Common.{sym, subst}
use Rattle.command_words.specs.Choice.{choice_of}
use Rattle.flat_model.specs.declared.place.Place.TheVariants.{Model}
use Rattle.command_answer.specs.Actions.{source_in, model_of}
use Rattle.command_answer.specs.Calls.{reads_in}
use Rattle.command_stages.specs.Ends.{Halts, IsPrintable, of_names}
use Rattle.command_stages.specs.Segments.{file_of}
use Rattle.command_stages.proofs.Halting.{passed}
use Rattle.command_stages.proofs.Models.{model_unread, model_unspelled, model_unflat, model_untyped, model_makes}
use Rattle.mo_lexer.specs.Tokens.{model_limit}
use Rattle.command_model.proofs.Short.{names_short}
use Rattle.command_model.proofs.Spelled.{is_tree}
use Rattle.command_model.proofs.model.model_of.Goals as goal

pub returns-in_err-text-clause-ended : goal.returns-in_err-text-clause-ended
returns-in_err-text-clause-ended g c = λ o step.
    let choice = choice_of c.args.command.now in
    passed (Halts (model_of (reads_in o) choice)) c.from_residual.result c.in_err-text.field-0.0 c.from_residual.ensures.1
    (model_unread (reads_in o) choice c.in_err-text.field-0.0 (c.in_err-text.ensures.ended o step))

pub returns-in_err-tree-clause-ended : goal.returns-in_err-tree-clause-ended
returns-in_err-tree-clause-ended g c = λ o step.
    let choice = choice_of c.args.command.now in
    let text = c.as_slice-bytes.result.now in
    let read = subst (λ t. (file_of (source_in (reads_in o) choice.mode) model_limit Model choice.model).makes t) (sym c.as_slice-bytes.ensures.value) (c.in_ok-text.ensures.made o step) in
    passed (Halts (model_of (reads_in o) choice)) c.from_residual-in_err-tree.result c.in_err-tree.field-0.0 c.from_residual-in_err-tree.ensures.1
    (model_unspelled (reads_in o) choice text read c.in_err-tree.field-0.0 c.in_err-tree.ensures.ended)

pub flatten-requires-clause-tree : goal.flatten-requires-clause-tree
flatten-requires-clause-tree g c = is_tree c.as_slice-bytes.result.now c.in_ok-tree.tree c.in_ok-tree.ensures.made

pub returns-in_err-raw-clause-ended : goal.returns-in_err-raw-clause-ended
returns-in_err-raw-clause-ended g c = λ o step.
    let choice = choice_of c.args.command.now in
    let text = c.as_slice-bytes.result.now in
    let end = c.in_err-raw.field-0.0 in
    let read = subst (λ t. (file_of (source_in (reads_in o) choice.mode) model_limit Model choice.model).makes t) (sym c.as_slice-bytes.ensures.value) (c.in_ok-text.ensures.made o step) in
    passed (Halts (model_of (reads_in o) choice)) c.from_residual-in_err-raw.result (of_names end) c.from_residual-in_err-raw.ensures.1
    (model_unflat (reads_in o) choice text read c.in_ok-tree.tree c.in_ok-tree.ensures.made end c.in_err-raw.ensures.answer)

pub returns-in_err-raw-clause-short : goal.returns-in_err-raw-clause-short
returns-in_err-raw-clause-short g c =
    let text = c.as_slice-bytes.result.now in
    let end = c.in_err-raw.field-0.0 in
    let is = is_tree text c.in_ok-tree.tree c.in_ok-tree.ensures.made in
    passed IsPrintable c.from_residual-in_err-raw.result (of_names end) c.from_residual-in_err-raw.ensures.1
    (names_short text is.0 c.in_ok-tree.tree is.1 is.2 _ end c.in_err-raw.ensures.answer)

pub returns-in_err-typed_of-clause-ended : goal.returns-in_err-typed_of-clause-ended
returns-in_err-typed_of-clause-ended g c = λ o step.
    let choice = choice_of c.args.command.now in
    let text = c.as_slice-bytes.result.now in
    let read = subst (λ t. (file_of (source_in (reads_in o) choice.mode) model_limit Model choice.model).makes t) (sym c.as_slice-bytes.ensures.value) (c.in_ok-text.ensures.made o step) in
    passed (Halts (model_of (reads_in o) choice)) c.from_residual-in_err-typed_of.result c.in_err-typed_of.field-0.0 c.from_residual-in_err-typed_of.ensures.1
    (model_untyped (reads_in o) choice text read c.in_ok-tree.tree c.in_ok-tree.ensures.made c.in_ok-raw.raw c.in_ok-raw.ensures.answer c.in_err-typed_of.field-0.0 c.in_err-typed_of.ensures.ended)

pub returns-clause-made : goal.returns-clause-made
returns-clause-made g c = λ o step.
    let choice = choice_of c.args.command.now in
    let text = c.as_slice-bytes.result.now in
    let read = subst (λ t. (file_of (source_in (reads_in o) choice.mode) model_limit Model choice.model).makes t) (sym c.as_slice-bytes.ensures.value) (c.in_ok-text.ensures.made o step) in
    model_makes (reads_in o) choice text read c.in_ok-tree.tree c.in_ok-tree.ensures.made c.in_ok-raw.raw c.in_ok-raw.ensures.answer c.in_ok-typed_of.field-0 c.in_ok-typed_of.ensures.made
