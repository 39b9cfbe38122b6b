use Rattle.std.proofs.Common.{◌≡◌, ◌+◌, ◌≤◌, drop, take}
use Rattle.std.specs.List.{fold}
use Rattle.flat_answer.specs.Places.{spot_behind, spot_at}
use Rattle.mo_flatten.proofs.Spots.{spot_of}
use Rattle.mo_flatten.proofs.place.place_at.Given as goal

abbrev pub invariant-loop-byte : goal.invariant-loop-byte
invariant-loop-byte l = record {
  spot : fold spot_behind (spot_of l.line l.column) (drop l.byte-index (take l.front l.text)) ≡ spot_at l.text l.at;
  line : l.line ≤ l.byte-index + 1;
  column : l.column ≤ l.byte-index + 1;
}
