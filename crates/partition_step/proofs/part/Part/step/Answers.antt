use Rattle.partition_step.specs.Steps.{Showing}
use Rattle.partition_step.proofs.Stepped.{Begun, begun_by, can_start, can_code, steps_some, steps_none}
use Rattle.partition_step.proofs.part.Part.step.Goals as goal

pub take_any-failing-requires-clause-start : goal.take_any-failing-requires-clause-start
take_any-failing-requires-clause-start g c =
    let showing : Showing = record { equations = c.args.flat.now.equations; places = c.args.places.now; moment = c.args.moment; ticks = g.T.Ticking.ticks c.args.ticks.now; answers = c.args.answers.now; left = c.args.left.now } in
    let begun : Begun showing c.args.self.now c.show.new.clocks c.begin.new.cells =
    begun_by showing c.args.self.now c.deref.result.now c.deref_mut.result.now c.show.new.clocks c.deref.ensures.value c.deref_mut.ensures.value c.show.ensures
    c.deref-2.result.now c.deref-3.result.now c.as_slice.result.now c.deref_mut-2.result.now c.begin.new.cells c.deref-2.ensures.value c.deref-3.ensures.value c.as_slice.ensures c.deref_mut-2.ensures.value c.begin.ensures in
    can_start showing c.args.self.now c.show.new.clocks c.begin.new.cells begun c.requires c.deref-4.result.now c.as_slice-2.result.now c.deref_mut-3.result.now c.deref-4.ensures.value c.as_slice-2.ensures c.deref_mut-3.ensures.value

pub take_any-failing-requires-clause-code : goal.take_any-failing-requires-clause-code
take_any-failing-requires-clause-code g c =
    let showing : Showing = record { equations = c.args.flat.now.equations; places = c.args.places.now; moment = c.args.moment; ticks = g.T.Ticking.ticks c.args.ticks.now; answers = c.args.answers.now; left = c.args.left.now } in
    let begun : Begun showing c.args.self.now c.show.new.clocks c.begin.new.cells =
    begun_by showing c.args.self.now c.deref.result.now c.deref_mut.result.now c.show.new.clocks c.deref.ensures.value c.deref_mut.ensures.value c.show.ensures
    c.deref-2.result.now c.deref-3.result.now c.as_slice.result.now c.deref_mut-2.result.now c.begin.new.cells c.deref-2.ensures.value c.deref-3.ensures.value c.as_slice.ensures c.deref_mut-2.ensures.value c.begin.ensures in
    can_code showing c.args.self.now c.show.new.clocks c.begin.new.cells begun c.requires c.deref-4.result.now c.as_slice-2.result.now c.deref_mut-3.result.now c.deref-4.ensures.value c.as_slice-2.ensures

pub returns-in-Some : goal.returns-in-Some
returns-in-Some g c =
    let showing : Showing = record { equations = c.args.flat.now.equations; places = c.args.places.now; moment = c.args.moment; ticks = g.T.Ticking.ticks c.args.ticks.now; answers = c.args.answers.now; left = c.args.left.now } in
    let begun : Begun showing c.args.self.now c.show.new.clocks c.begin.new.cells =
    begun_by showing c.args.self.now c.deref.result.now c.deref_mut.result.now c.show.new.clocks c.deref.ensures.value c.deref_mut.ensures.value c.show.ensures
    c.deref-2.result.now c.deref-3.result.now c.as_slice.result.now c.deref_mut-2.result.now c.begin.new.cells c.deref-2.ensures.value c.deref-3.ensures.value c.as_slice.ensures c.deref_mut-2.ensures.value c.begin.ensures in
    steps_some showing c.args.self.now c.show.new.clocks c.begin.new.cells begun c.deref-4.result.now c.as_slice-2.result.now c.deref_mut-3.result.now c.take_any-failing.new.cells c.take_any-failing.result c.deref-4.ensures.value c.as_slice-2.ensures c.deref_mut-3.ensures.value
    c.take_any-failing.ensures.takes c.take_any-failing.ensures.size c.take_any-failing.new.code c.take_any-failing.ensures.same c.in-Some.failing c.in-Some.is

pub returns-in-None : goal.returns-in-None
returns-in-None g c =
    let showing : Showing = record { equations = c.args.flat.now.equations; places = c.args.places.now; moment = c.args.moment; ticks = g.T.Ticking.ticks c.args.ticks.now; answers = c.args.answers.now; left = c.args.left.now } in
    let begun : Begun showing c.args.self.now c.show.new.clocks c.begin.new.cells =
    begun_by showing c.args.self.now c.deref.result.now c.deref_mut.result.now c.show.new.clocks c.deref.ensures.value c.deref_mut.ensures.value c.show.ensures
    c.deref-2.result.now c.deref-3.result.now c.as_slice.result.now c.deref_mut-2.result.now c.begin.new.cells c.deref-2.ensures.value c.deref-3.ensures.value c.as_slice.ensures c.deref_mut-2.ensures.value c.begin.ensures in
    steps_none showing c.args.self.now c.show.new.clocks c.begin.new.cells begun c.deref-4.result.now c.as_slice-2.result.now c.deref_mut-3.result.now c.take_any-failing.new.cells c.take_any-failing.result c.deref-4.ensures.value c.as_slice-2.ensures c.deref_mut-3.ensures.value
    c.take_any-failing.ensures.takes c.take_any-failing.ensures.size c.take_any-failing.new.code c.take_any-failing.ensures.same c.in-None.is c.deref_mut-in-None.result.now c.keep.new.cells c.deref_mut-in-None.ensures.value c.keep.ensures
    c.deref-in-None.result.now c.deref_mut-in-None-2.result.now c.note.new.classes c.deref-in-None.ensures.value c.deref_mut-in-None-2.ensures.value c.note.ensures
