use Rattle.std.proofs.Common.{◌≡◌, ℕ, ◌<◌, length}
use Rattle.mo_order.specs.Marks.{is_marked}
use Rattle.class_sizes.specs.Owners.{has_own}
use Rattle.class_sizes.proofs.owning.owners.Given as goal

abbrev pub invariant-loop-class : goal.invariant-loop-class
invariant-loop-class l = record {
  size : length l.marks.items ≡ l.class;
  each : (class : ℕ) → class < l.class → is_marked l.marks.items class ≡ has_own l.scopes.named.file.text.now l.scopes.named.file.classes.now class;
}
