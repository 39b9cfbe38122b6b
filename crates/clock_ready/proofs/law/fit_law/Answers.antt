use Rattle.clock_ready.proofs.Fitting.{fits}
use Rattle.clock_ready.proofs.law.fit_law.Goals as goal

pub returns : goal.returns
returns c = λ model terms classes is t k. fits model terms classes is t k
