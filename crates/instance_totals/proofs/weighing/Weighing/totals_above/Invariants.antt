use Rattle.std.proofs.Common.{◌≡◌, ℕ, ◌<◌, min, length}
use Rattle.instance_totals.specs.Weights.{number_at}
use Rattle.instance_totals.specs.private.Levels.{next}
use Rattle.instance_totals.proofs.weighing.Weighing.totals_above.Given as goal

abbrev pub invariant-loop-class : goal.invariant-loop-class
invariant-loop-class l = record {
  size : length l.totals.items ≡ l.class;
  each : (class : ℕ) → class < l.class → number_at l.totals.items class
      ≡ min (next l.self.file.now.text.now l.self.file.now.classes.now l.self.variable l.self.own.now (number_at l.below) class) l.self.most;
}
