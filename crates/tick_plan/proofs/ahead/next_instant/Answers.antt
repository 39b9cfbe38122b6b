use Rattle.std.proofs.Common.{sym, subst}
use Rattle.tick_plan.specs.private.Course.{NextIs}
use Rattle.tick_plan.proofs.Untold.{lift, lift₃}
use Rattle.tick_plan.proofs.Nexts.{next_of}
use Rattle.tick_plan.proofs.ahead.next_instant.Goals as goal

pub returns : goal.returns
returns c = subst (λ r. ∥ NextIs c.args.axis.now.course r ∥₁) (sym c.earlier.ensures)
    (lift₃ (λ is row tick. next_of c.args.axis.now.course is.rows c.row_ahead.result c.tick_ahead.result row tick) c.requires c.row_ahead.ensures c.tick_ahead.ensures)

pub row_ahead-requires : goal.row_ahead-requires
row_ahead-requires c = lift (λ is. is.rows) c.requires
