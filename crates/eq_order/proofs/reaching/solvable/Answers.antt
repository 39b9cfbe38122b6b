use Rattle.std.proofs.Common.{◌≡◌, sym, ◌∙◌, true, false}
use Rattle.eq_order.proofs.Solvable.{solvable_by, not_lagging, spine_by}
use Rattle.eq_order.proofs.reaching.solvable.Goals as goal

pub returns-in_default : goal.returns-in_default
returns-in_default c = λ solvable. let (side, is) = spine_by c.args.name c.args.equation.now solvable in c.in_default.ensures side is

pub returns-then-lags : goal.returns-then-lags
returns-then-lags c = λ solvable. not_lagging c.args.name c.args.equation.now solvable (c.lags.ensures.0 c.if-lags.true)

pub returns : goal.returns
returns c = (solvable_by c.args.name c.args.equation.now c.in-Some.spine.left c.in-Some.ensures (λ some. false_true (sym c.if-lags.false ∙ c.lags.ensures.1 some)), c.in-Some.ensures)
  where
    false_true : false ≡ true → ⊥
    false_true e = cc
