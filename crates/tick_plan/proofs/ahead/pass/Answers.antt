use Rattle.std.proofs.Common.{◌∙◌, sym, ap, subst, length, get_or, Some}
use Rattle.std.proofs.lemmas.List.{with_items_is}
use Rattle.std.proofs.Props.{props}
use Rattle.flat_model.specs.declared.clock.Moment.TheVariants.{At}
use Rattle.tick_plan.specs.private.Axis.{IsPlaced}
use Rattle.tick_plan.proofs.Untold.{lift, lift₃, known, known₂}
use Rattle.tick_plan.proofs.Passing.{steps_rise, root_not_before, below_limit, placed_behind, passed_of}
use Rattle.tick_plan.proofs.ahead.pass.Goals as goal

pub pass_ticks-requires-clause-rising : goal.pass_ticks-requires-clause-rising
pass_ticks-requires-clause-rising c = rw c.as_slice.ensures.value (known (hlevel props) (λ is. steps_rise c.args.axis.now is) c.requires.is)

pub pass_ticks-requires-clause-first : goal.pass_ticks-requires-clause-first
pass_ticks-requires-clause-first c = rw c.as_mut_slice.ensures.value (known₂ (hlevel props) (λ is next. root_not_before c.args.axis.now is c.args.t next) c.requires.is c.requires.next)

pub pass_ticks-requires-clause-below : goal.pass_ticks-requires-clause-below
pass_ticks-requires-clause-below c = rw c.as_mut_slice.ensures.value (known₂ (hlevel props) (λ is next some. below_limit c.args.axis.now is c.args.t next (get_or c.args.axis.now.nodes.items 1 0)) c.requires.is c.requires.next)

pub pass_ticks-requires-clause-tree : goal.pass_ticks-requires-clause-tree
pass_ticks-requires-clause-tree c = rw c.as_mut_slice.ensures.value (known (hlevel props) (λ is. is.tree) c.requires.is)

pub pass_ticks-requires-clause-long : goal.pass_ticks-requires-clause-long
pass_ticks-requires-clause-long c = rw (c.as_mut_slice.ensures.value, c.as_slice.ensures.value) (known (hlevel props) (λ is. is.long) c.requires.is)

pub returns-clause-is : goal.returns-clause-is
returns-clause-is c =
    let a = c.args.axis.now in
    let long = c.pass_ticks.ensures.long ∙ ap length c.as_mut_slice.ensures.value in
    let items = with_items_is a.nodes c.pass_ticks.new.nodes (long ∙ sym a.nodes.ok.0) in
    subst (λ xs. ∥ IsPlaced (record { clocks = a.course.clocks; times = a.course.times; stop = a.course.stop; row = c.row_after-axis.result; given = Some (At c.args.t) }) a.den a.limit xs a.steps.items ∥₁) (sym items)
    (lift₃ (λ is next row. placed_behind a is c.args.t next c.row_after-axis.result row c.pass_ticks.new.nodes c.pass_ticks.ensures.tree long
    (passed_of a c.args.t c.pass_ticks.new.nodes c.as_mut_slice.result.now c.as_slice.result.now c.as_mut_slice.ensures.value c.as_slice.ensures.value c.pass_ticks.ensures.leaves))
    c.requires.is c.requires.next c.row_after-axis.ensures)

pub row_after-axis-requires-clause-rows : goal.row_after-axis-requires-clause-rows
row_after-axis-requires-clause-rows c = lift (λ is. is.rows) c.requires.is
