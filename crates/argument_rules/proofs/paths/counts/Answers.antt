use Rattle.std.proofs.Common.{◌∙◌, sym}
use Rattle.mo_parser.specs.declared.tree.Arg.TheViews.{out-Arg}
use Rattle.argument_rules.proofs.Leaves.{counts_none, counts_some}
use Rattle.argument_rules.proofs.paths.counts.Goals as goal

pub returns-then-is_empty : goal.returns-then-is_empty
returns-then-is_empty c = sym (counts_none _ _ (c.is_empty.ensures.0 c.if-is_empty.true))

pub returns-else-is_empty : goal.returns-else-is_empty
returns-else-is_empty c = c.is_some.ensures ∙ sym (counts_some (out-Arg c.args.arg.now).args (out-Arg c.args.arg.now).binding (λ none. cc (c.is_empty.ensures.1 none, c.if-is_empty.false)))
