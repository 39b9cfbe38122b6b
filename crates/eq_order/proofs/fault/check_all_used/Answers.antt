use Rattle.std.proofs.Common.{sym, subst, ◌<◌, length, map, Err}
use Rattle.eq_order.specs.Order.{IsLeast, use_of}
use Rattle.eq_order.specs.private.Tables.{EndsAs, IsIdle}
use Rattle.eq_order.proofs.Surveys.{least_unused, none_unused}
use Rattle.eq_order.proofs.fault.check_all_used.Goals as goal

pub returns-in-Some : goal.returns-in-Some
returns-in-Some c = λ s same none.
    let used = c.in_ok-used.used.items in
    let least : IsLeast (IsIdle s.model.equations used) c.in-Some.i =
    subst (λ flags. IsLeast (IsIdle s.model.equations flags) c.in-Some.i) c.deref.ensures.value (subst (λ all. IsLeast (IsIdle all c.deref.result.now) c.in-Some.i) (sym same) c.in-Some.ensures) in
    subst (λ end. EndsAs s (map use_of c.args.uses.now) (Err end)) (sym c.at_equation.ensures)
    (none, least_unused s c.args.uses.now used (λ j below. c.in_ok-used.ensures j (subst (λ all. j < length all) same below)) c.in-Some.i least)

pub returns : goal.returns
returns c = λ s same none.
    let used = c.in_ok-used.used.items in (
      none,
      none_unused s c.args.uses.now used (λ j below. c.in_ok-used.ensures j (subst (λ all. j < length all) same below))
          (λ j idle. c.in-None.ensures j (subst (λ all. IsIdle all c.deref.result.now j) same (subst (λ flags. IsIdle s.model.equations flags j) (sym c.deref.ensures.value) idle))),
    )
