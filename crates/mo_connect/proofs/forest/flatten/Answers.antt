use Rattle.std.proofs.Common.{◌<◌, length, arith}
use Rattle.mo_connect.proofs.Links.{reads, climb_keeps, flat_more}
use Rattle.mo_connect.proofs.forest.flatten.Goals as goal

pub bounds-parents-parents : goal.bounds-parents-parents
bounds-parents-parents c =
    let within : c.loop-x.x < length c.loop-x.parents = omega arith in
    let low = c.loop-x.invariant.kept.falls c.loop-x.x in
    let is = reads c.loop-x.parents c.loop-x.x c.loop-x.invariant.kept.falls within in
    omega (arith, is.0, low)

pub loop-x-preserved : goal.loop-x-preserved
loop-x-preserved c =
    let within : c.loop-x.x < length c.loop-x.parents = omega arith in
    let is = reads c.loop-x.parents c.loop-x.x c.loop-x.invariant.kept.falls within in
    record {
      kept = climb_keeps _ c.loop-x.parents c.loop-x.x _ within is.1 c.loop-x.invariant.kept;
      flat = rw is.1 (flat_more c.loop-x.parents c.loop-x.x c.loop-x.invariant.kept.falls within c.loop-x.invariant.flat);
    }
