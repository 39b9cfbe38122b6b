use Rattle.std.proofs.Common.{sym, subst}
use Rattle.flat_model.specs.declared.expression.Expr.TheVariants.{Neg}
use Rattle.order_tests.specs.Tame.{IsTame}
use Rattle.order_tests.proofs.Tame.{tame_neg}
use Rattle.order_tests.proofs.solving.neg.Goals as goal

pub returns : goal.returns
returns g c = subst (λ part. IsTame (Neg part)) (sym c.boxed.ensures) (tame_neg c.args.part c.requires)
