use Rattle.std.proofs.Common.{sym, subst}
use Rattle.flat_model.specs.declared.expression.Expr.TheVariants.{Apply}
use Rattle.flat_model.specs.declared.expression.Fun.TheVariants.{Div}
use Rattle.order_tests.specs.Tame.{IsTame}
use Rattle.order_tests.proofs.Tame.{tame_quotient}
use Rattle.order_tests.proofs.solving.quotient.Goals as goal

pub returns : goal.returns
returns g c = subst (λ parts. IsTame (Apply Div parts)) (sym c.two.ensures) (tame_quotient _ _)
