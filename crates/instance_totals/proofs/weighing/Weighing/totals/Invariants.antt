use Rattle.instance_totals.specs.private.Levels.{AreTotals}
use Rattle.instance_totals.proofs.weighing.Weighing.totals.Given as goal

abbrev pub invariant-loop-level : goal.invariant-loop-level
invariant-loop-level l = AreTotals l.self.file.now.text.now l.self.file.now.classes.now l.self.variable l.self.own.now l.self.most l.level l.below.items
