use Rattle.clock_check.proofs.Ready.{ready}
use Rattle.clock_check.proofs.law.ready_law.Goals as goal

pub returns : goal.returns
returns c = λ model terms classes clocking table instants are_terms are_classes is. ready model terms classes clocking table instants are_terms are_classes is
