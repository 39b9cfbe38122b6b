use Rattle.std.proofs.Common.{◌∙◌, sym, ap, leb-true}
use Rattle.std.specs.Option.{option_copied}
use Rattle.tick_plan.proofs.Untold.{lift}
use Rattle.tick_plan.proofs.Rows.{row_some, row_none, row_past, above_stop}
use Rattle.tick_plan.proofs.course.row_ahead.Goals as goal

pub returns-then-is_at_most : goal.returns-then-is_at_most
returns-then-is_at_most c = lift (λ is. row_some c.args.course.now is c.in-Some.at.now (sym c.get.ensures.value ∙ ap option_copied c.in-Some.is) (leb-true _ _ (sym c.is_at_most.ensures ∙ c.if-is_at_most.true))) c.requires

pub returns-else-is_at_most : goal.returns-else-is_at_most
returns-else-is_at_most c = lift (λ is. row_past c.args.course.now is c.in-Some.at.now (sym c.get.ensures.value ∙ ap option_copied c.in-Some.is) (above_stop c.in-Some.at.now c.args.course.now.stop (sym c.is_at_most.ensures ∙ c.if-is_at_most.false))) c.requires

pub returns-in-None : goal.returns-in-None
returns-in-None c = lift (λ is. row_none c.args.course.now is (sym c.get.ensures.value ∙ ap option_copied c.in-None.is)) c.requires
