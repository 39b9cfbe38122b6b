use Rattle.std.proofs.Common.{◌∙◌, sym, ap, leb-true}
use Rattle.std.specs.Option.{option_copied}
use Rattle.tick_plan.proofs.Untold.{lift₂}
use Rattle.tick_plan.proofs.Rows.{above_stop}
use Rattle.tick_plan.proofs.Rows.{row_goes_on, row_stays, row_ended}
use Rattle.tick_plan.proofs.course.row_after.Goals as goal

pub returns-in-None : goal.returns-in-None
returns-in-None c = lift₂ (λ is next. row_ended c.args.course.now is c.args.t next (sym c.get.ensures.value ∙ ap option_copied c.in-None.is)) c.requires.rows c.requires.next

pub returns-then-is_at_most : goal.returns-then-is_at_most
returns-then-is_at_most c = lift₂ (λ is next. row_goes_on c.args.course.now is c.args.t c.in-Some.at.now next (sym c.get.ensures.value ∙ ap option_copied c.in-Some.is) (leb-true _ _ (sym c.is_at_most.ensures ∙ c.if-is_at_most.true))) c.requires.rows c.requires.next

pub returns-else-is_at_most : goal.returns-else-is_at_most
returns-else-is_at_most c = lift₂ (λ is next. row_stays c.args.course.now is c.args.t c.in-Some.at.now next (sym c.get.ensures.value ∙ ap option_copied c.in-Some.is) (above_stop c.in-Some.at.now c.args.t (sym c.is_at_most.ensures ∙ c.if-is_at_most.false))) c.requires.rows c.requires.next
