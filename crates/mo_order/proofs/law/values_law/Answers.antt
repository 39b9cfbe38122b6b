use Rattle.mo_order.proofs.Lists as lists
use Rattle.mo_order.proofs.law.values_law.Goals as goal

pub returns : goal.returns
returns c = lists.one_list
