use Rattle.clock_terms.proofs.Whole.{terms_once}
use Rattle.clock_terms.proofs.law.terms_once_law.Goals as goal

pub returns : goal.returns
returns c = λ model one other first second. terms_once model one other first second
