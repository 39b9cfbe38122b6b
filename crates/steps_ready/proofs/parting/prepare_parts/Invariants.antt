use Rattle.std.proofs.Common.{◌≡◌, length, vec_len}
use Rattle.steps_ready.specs.Parting.{AreReady}
use Rattle.steps_ready.proofs.parting.prepare_parts.Given as goal

abbrev pub invariant-loop-k : goal.invariant-loop-k
invariant-loop-k l = record {
  size : vec_len l.slots ≡ l.k;
  wide : vec_len l.places ≡ length l.flat.names;
  ready : AreReady l.flat l.clocking l.parts l.places.items l.slots.items;
}
