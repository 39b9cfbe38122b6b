use Rattle.class_scopes.specs.private.Reaching.{AreListed, IsMarked, Closed}
use Rattle.class_scopes.proofs.reach.reached.Given as goal

abbrev pub invariant-loop-turn : goal.invariant-loop-turn
invariant-loop-turn l = record {
  are : AreListed l.file.text.now l.file.classes.now l.chosen l.seen.items l.reached.items;
  start : IsMarked l.seen.items l.chosen;
  closed : Closed l.file.text.now l.file.classes.now l.reached.items l.turn l.seen.items;
}
