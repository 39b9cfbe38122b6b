use Rattle.std.proofs.Common.{◌<◌, ◌^◌, refl, arith}
use Rattle.fork_runner.specs.Runners.{StandsFor, flat_of, seen_of}
use Rattle.run_trace.proofs.Rowing.{row_there}
use Rattle.run_tally.proofs.Adding.{none_so_far, row_so_far, end_reached, fault_reached, rows_few, too_many, row_few}
use Rattle.run_tally.proofs.tally.tally.Goals as goal

pub advance-requires-after_bounds : goal.advance-requires-after_bounds
advance-requires-after_bounds g c κs within =
    let start = c.requires.start in
    let so_far = c.rows.invariant.so_far start.setting start.assignment start.stands_for start.model_is in
    (start.setting, so_far.assignment, so_far.before, so_far.stands_for)

pub values-requires : goal.values-requires
values-requires g c =
    let start = c.requires.start in
    let so_far = c.rows.invariant.so_far start.setting start.assignment start.stands_for start.model_is in
    row_there (StandsFor g.P.TickSource.planned c.rows.runner) (StandsFor g.P.TickSource.planned c.advance.new.self) (flat_of c.args.runner.now) start.setting so_far.assignment so_far.before (seen_of c.advance.new.self)
    c.in-Row.ensures.advances so_far.stands_for

pub with_row-sums-requires-clause-rows : goal.with_row-sums-requires-clause-rows
with_row-sums-requires-clause-rows g c =
    let start = c.requires.start in
    let so_far = c.rows.invariant.so_far start.setting start.assignment start.stands_for start.model_is in
    rows_few (StandsFor g.P.TickSource.planned c.rows.runner) start.setting c.rows.sums c.rows._row so_far start.few

pub with_row-sums-requires-clause-few : goal.with_row-sums-requires-clause-few
with_row-sums-requires-clause-few g c =
    let start = c.requires.start in
    let so_far = c.rows.invariant.so_far start.setting start.assignment start.stands_for start.model_is in
    row_few (StandsFor g.P.TickSource.planned c.rows.runner) (StandsFor g.P.TickSource.planned c.advance.new.self) (flat_of c.args.runner.now) start.setting so_far.assignment so_far.before (seen_of c.advance.new.self)
    c.values.result.now c.requires.names c.in-Row.ensures.advances so_far.stands_for start.model_is c.values.ensures

pub returns-in-Fault : goal.returns-in-Fault
returns-in-Fault g c = λ s S stands is. fault_reached (StandsFor g.P.TickSource.planned c.rows.runner) (StandsFor g.P.TickSource.planned c.advance.new.self) s c.rows.sums c.rows._row
    (seen_of c.advance.new.self) c.in-Fault.fault (c.rows.invariant.so_far s S stands is) c.in-Fault.ensures.advances

pub returns-in-End : goal.returns-in-End
returns-in-End g c = λ s S stands is. end_reached (StandsFor g.P.TickSource.planned c.rows.runner) (StandsFor g.P.TickSource.planned c.advance.new.self) s c.rows.sums c.rows._row
    (seen_of c.advance.new.self) (c.rows.invariant.so_far s S stands is) c.in-End.ensures.advances

pub rows-preserved : goal.rows-preserved
rows-preserved g c = record {
  so_far = λ s S stands is. row_so_far (StandsFor g.P.TickSource.planned c.rows.runner) (StandsFor g.P.TickSource.planned c.advance.new.self) s c.rows.sums c.with_row-sums.result c.rows._row
      (seen_of c.advance.new.self) c.values.result.now (c.rows.invariant.so_far s S stands is) c.in-Row.ensures.advances c.values.ensures c.with_row-sums.ensures.sums;
  bounded = c.with_row-sums.ensures.bounded;
}

pub unreachable-requires : goal.unreachable-requires
unreachable-requires g c =
    let start = c.requires.start in
    let so_far = c.rows.invariant.so_far start.setting start.assignment start.stands_for start.model_is in
    let many : 2 ^ 63 < c.rows._row = omega (arith, c.rows-test.false) in
    too_many (StandsFor g.P.TickSource.planned c.rows.runner) start.setting c.rows.sums c.rows._row (2 ^ 63) so_far (let few = start.few in omega (arith, few)) many
