use Rattle.std.proofs.Common.{sym, subst, inl, inr, arith}
use Rattle.std.proofs.lemmas.Bool.{cases_eq}
use Rattle.clock_tests.specs.Raws.{HasEquation}
use Rattle.clock_tests.proofs.equations.are_used.Goals as goal

pub loop-clause-preserved : goal.loop-clause-preserved
loop-clause-preserved c = λ k below.
    elim (cases_eq k c.loop-clause.clause) [
      | inl same ↦ subst (HasEquation c.args.equations.now) (sym same) (c.is_used.ensures c.if-not-is_used.false)
      | inr other ↦ c.loop-clause.invariant k (omega (arith, below, other))
    ]

pub returns : goal.returns
returns c = λ _ k below. c.loop-clause.invariant k (omega (arith, below, c.loop-clause-test.false))
