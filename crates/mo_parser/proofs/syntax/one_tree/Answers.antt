use Rattle.mo_parser.proofs.Faults.{one_tree}
use Rattle.mo_parser.proofs.syntax.one_tree.Goals as goal

pub returns : goal.returns
returns c = one_tree
