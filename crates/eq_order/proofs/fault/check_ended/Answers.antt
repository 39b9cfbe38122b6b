use Rattle.std.proofs.Common.{ap, sym, subst, ◌∙◌, ◌<◌, length, map, Err, arith}
use Rattle.eq_order.specs.Order.{use_of}
use Rattle.eq_order.specs.private.Reaching.{is_waiting}
use Rattle.eq_order.specs.private.Tables.{EndsAs, count_below}
use Rattle.eq_order.proofs.Surveys.{is_reader, too_few, enough, least_stuck, none_stuck, least_reader, least_name, none_missing, must_be_fewer, ends_at_name}
use Rattle.eq_order.proofs.fault.check_ended.Goals as goal

pub returns-in_default : goal.returns-in_default
returns-in_default c = λ s same are end.
    c.check_all_used.ensures s (ap (λ m. m.equations) same ∙ sym c.as_slice.ensures) (none_missing s c.args.reads.now c.args.reached.now (map use_of c.args.uses.now) are end c.in_default.ensures)

pub returns-in-Some-first_stuck : goal.returns-in-Some-first_stuck
returns-in-Some-first_stuck c = λ s same are end.
    subst (λ it. EndsAs s (map use_of c.args.uses.now) (Err it)) (sym c.at_equation.ensures)
    (least_stuck s c.args.reads.now c.args.reached.now (map use_of c.args.uses.now) are end c.in-Some-first_stuck.i c.in-Some-first_stuck.ensures)

pub returns-then-count_readers-count_unreached : goal.returns-then-count_readers-count_unreached
returns-then-count_readers-count_unreached c = λ s same are end.
    let reads = c.args.reads.now in
    let reached = c.args.reached.now in
    let uses = map use_of c.args.uses.now in
    let fewer : count_below (is_reader reads reached) (length reads) < count_below (is_waiting reached) (length reached) =
    omega (arith, c.if-count_readers-count_unreached.true, c.count_readers.ensures, c.count_unreached.ensures) in
    ends_at_name s uses c.as_slice-then-count_readers-count_unreached.result.now c.in-Some.name c.at_name.result (c.as_slice-then-count_readers-count_unreached.ensures ∙ ap (λ m. m.names) (sym same)) c.at_name.ensures
    (none_stuck s reads reached uses are end c.in_default-first_stuck.ensures) (too_few s reads reached uses are end fewer) (least_name s reads reached uses are end c.in-Some.name c.in-Some.ensures)

pub returns : goal.returns
returns c = λ s same are end.
    let reads = c.args.reads.now in
    let reached = c.args.reached.now in
    let uses = map use_of c.args.uses.now in
    subst (λ it. EndsAs s uses (Err it)) (sym c.at_equation-in-Some-first_reader.ensures) (
      none_stuck s reads reached uses are end c.in_default-first_stuck.ensures,
      enough s reads reached uses are end (λ fewer. omega (arith, fewer, c.if-count_readers-count_unreached.false, c.count_readers.ensures, c.count_unreached.ensures)),
      least_reader s reads reached uses are end c.in-Some-first_reader.i c.in-Some-first_reader.ensures,
    )

pub unreachable-requires : goal.unreachable-requires
unreachable-requires c =
    let fewer = must_be_fewer c.args.reads.now c.args.reached.now c.in-Some.name c.in-Some.ensures.holds c.in-None.ensures in
    omega (arith, fewer, c.if-count_readers-count_unreached.false, c.count_readers.ensures, c.count_unreached.ensures)
