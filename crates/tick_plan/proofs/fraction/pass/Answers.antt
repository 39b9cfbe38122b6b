use Rattle.tick_plan.proofs.Untold.{lift, lift₃}
use Rattle.tick_plan.proofs.Fractions.{whole_behind}
use Rattle.tick_plan.proofs.fraction.pass.Goals as goal

pub row_after-course-requires-clause-rows : goal.row_after-course-requires-clause-rows
row_after-course-requires-clause-rows c = lift (λ is. is.rows) c.requires.is

pub returns-clause-is : goal.returns-clause-is
returns-clause-is c = lift₃ (λ is next row. whole_behind c.args.course.now is c.args.t next c.row_after-course.result row) c.requires.is c.requires.next c.row_after-course.ensures
