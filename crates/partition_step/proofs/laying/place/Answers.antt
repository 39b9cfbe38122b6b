use Rattle.std.proofs.Common.{rules, arith, ◌≤◌, length}
use Rattle.std.proofs.lemmas.Option.{slice_get_within}
use Rattle.partition_step.proofs.Laid.{placed_turn}
use Rattle.partition_step.proofs.laying.place.Goals as goal

pub loop-i-preserved : goal.loop-i-preserved
loop-i-preserved c = placed_turn c.args.uses.now c.args.places.now c.loop-i.places c.loop-i.i _ c.set_place.new.places c.loop-i.invariant c.loop-i-test.true c.set_place.ensures

pub returns-clause-own : goal.returns-clause-own
returns-clause-own c = λ once i entry found within.
    let all : length c.args.uses.now ≤ c.loop-i.i = search rules in
    let less = slice_get_within c.args.uses.now i entry found in
    c.loop-i.invariant.own once i entry (omega (arith, all, less)) found within
