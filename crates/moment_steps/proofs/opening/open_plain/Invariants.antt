use Rattle.tree_step.specs.declared.cell.Standing.TheVariants.{Ticks}
use Rattle.partition_step.proofs.Lists.{WrittenTo}
use Rattle.moment_steps.specs.Opening.{opened_by}
use Rattle.moment_steps.proofs.opening.open_plain.Given as goal

abbrev pub invariant-loop-at : goal.invariant-loop-at
invariant-loop-at l = WrittenTo (opened_by l.numbers l.last l.now (λ x. Ticks)) l.fn.cells l.at l.cells
