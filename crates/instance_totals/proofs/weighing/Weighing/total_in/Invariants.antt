use Rattle.std.proofs.Common.{◌≡◌, ◌+◌, min, take}
use Rattle.std.specs.List.{sum_by}
use Rattle.instance_totals.specs.Weights.{number_at}
use Rattle.instance_totals.specs.private.Levels.{weight}
use Rattle.instance_totals.proofs.weighing.Weighing.total_in.Given as goal

abbrev pub invariant-loop-element : goal.invariant-loop-element
invariant-loop-element l =
    l.total
    ≡ min (sum_by (weight l.self.file.now.text.now l.self.file.now.classes.now l.self.variable (number_at l.below)) (take l.element-index l.element-items) + number_at l.self.own.now l.class) l.self.most
