use Rattle.std.proofs.Common.{◌≡◌, ◌<◌, ◌++◌, ℕ, map, vec_len}
use Rattle.moment_order.specs.declared.stage.Stage.TheVariants.{Pure, Partition, Waiting}
use Rattle.steps_ready.specs.Division.{entry_of, taken_at, part_of}
use Rattle.steps_ready.proofs.Divided.{left}
use Rattle.steps_ready.proofs.division.divide.Given as goal

abbrev pub invariant-loop-at : goal.invariant-loop-at
invariant-loop-at l = record {
  size : vec_len l.division.parts ≡ l.count;
  pure_are : l.division.pure ++ map entry_of (left Pure l.stages l.order l.at) ≡ map entry_of (taken_at Pure l.stages l.order);
  waiting_are : l.division.waiting ++ map entry_of (left Waiting l.stages l.order l.at) ≡ map entry_of (taken_at Waiting l.stages l.order);
  parts_are : (k : ℕ) → k < l.count → part_of l.division.parts.items k ++ left (Partition k) l.stages l.order l.at ≡ taken_at (Partition k) l.stages l.order;
}
