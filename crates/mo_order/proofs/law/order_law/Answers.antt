use Rattle.mo_order.proofs.Orders as orders
use Rattle.mo_order.proofs.law.order_law.Goals as goal

pub returns-clause-never_both : goal.returns-clause-never_both
returns-clause-never_both c = orders.never_both

pub returns-clause-one_number : goal.returns-clause-one_number
returns-clause-one_number c = orders.one_number
