use Rattle.moment_theory.proofs.Settled.{orders_agree}
use Rattle.moment_theory.proofs.law.order_law.Goals as goal

pub returns : goal.returns
returns c = λ s uses first second is same free S m inputs one two are a b x. orders_agree s uses first second is same free S m inputs one two are a b x
