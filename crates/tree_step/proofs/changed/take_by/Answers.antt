use Rattle.std.proofs.Common.{sym, ltb-true}
use Rattle.tree_step.proofs.Taken.{found_at}
use Rattle.tree_step.proofs.changed.take_by.Goals as goal

pub take_or_keep-requires-clause-again : goal.take_or_keep-requires-clause-again
take_or_keep-requires-clause-again c =
    c.requires.again c.in-Some.reads.now (found_at c.args.reads.now c.args.at c.in-Some.reads.now (ltb-true _ _ (sym c.in-Some.ensures.lookup.0)) c.in-Some.ensures.lookup.1)
