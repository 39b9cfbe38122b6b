use Rattle.sub_clock_solve.proofs.Once.{one_answer}
use Rattle.sub_clock_solve.proofs.law.one_answer_law.Goals as goal

pub returns : goal.returns
returns c = λ terms classes fit one other a b n m. one_answer terms classes fit one other a b n m
