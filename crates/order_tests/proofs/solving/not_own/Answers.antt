use Rattle.std.proofs.Common.{sym, subst}
use Rattle.flat_model.specs.declared.expression.Expr.TheVariants.{Not}
use Rattle.order_tests.specs.Tame.{IsReady}
use Rattle.order_tests.proofs.Tame.{ready_not}
use Rattle.order_tests.proofs.solving.not_own.Goals as goal

pub returns : goal.returns
returns g c = subst (λ part. IsReady (Not part)) (sym c.boxed.ensures) ready_not
