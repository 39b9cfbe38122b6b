use Rattle.class_order.proofs.Answering as answering
use Rattle.class_order.proofs.law.class_order_law.Goals as goal

pub returns-clause-never_both : goal.returns-clause-never_both
returns-clause-never_both c = answering.never_both

pub returns-clause-one_place : goal.returns-clause-one_place
returns-clause-one_place c = answering.one_place

pub returns-clause-one_mark : goal.returns-clause-one_mark
returns-clause-one_mark c = answering.one_mark
