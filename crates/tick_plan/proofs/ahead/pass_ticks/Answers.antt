use Rattle.std.proofs.Common.{◌∙◌, sym, arith, eq-eqb}
use Rattle.std.proofs.lemmas.Bool.{eqb-true, false≢true}
use Rattle.tick_tree.proofs.Roots.{root_least}
use Rattle.tick_plan.proofs.Passing.{moved_passed, kept_passed}
use Rattle.tick_plan.proofs.ahead.pass_ticks.Goals as goal
use Rattle.tick_plan.proofs.ahead.pass_ticks.Goals.{else-nodes-gt1-via-then-nodes-gt1+else-is_at, else-nodes-gt1-via-else-nodes-gt1}

pub returns-then-is_at-clause-leaves : goal.returns-then-is_at-clause-leaves
returns-then-is_at-clause-leaves c j lt = c.advance.ensures.leaves j lt ∙ moved_passed c.args.den c.args.limit _ _ _ c.args.t (eqb-true _ _ (sym c.is_at.ensures ∙ c.if-is_at.true))

pub returns-else-nodes-gt1-clause-leaves : goal.returns-else-nodes-gt1-clause-leaves
returns-else-nodes-gt1-clause-leaves c j lt = elim c.else-nodes-gt1.branch [
  | else-nodes-gt1-via-then-nodes-gt1+else-is_at w ↦ kept_passed c.args.den c.args.limit _ _ _ c.args.t (c.requires.first w.if-nodes-gt1.true)
      (λ same. false≢true (sym (sym w.is_at.ensures ∙ w.if-is_at.false) ∙ eq-eqb _ _ same)) (root_least c.args.nodes.now c.requires.tree j (omega (arith, c.requires.long, lt)))
  | else-nodes-gt1-via-else-nodes-gt1 w ↦ absurd (omega (arith, c.requires.long, lt, w.if-nodes-gt1.false))
]
