use Rattle.class_scopes.specs.private.Reaching.{Grows, PartsMarked}
use Rattle.class_scopes.proofs.reach.mark_parts.Given as goal

abbrev pub invariant-loop-element : goal.invariant-loop-element
invariant-loop-element l = record {
  grows : Grows l.file.text.now l.file.classes.now l.chosen l.initial.seen.items l.initial.reached.items l.seen.items l.reached.items;
  parts : PartsMarked l.file.text.now l.file.classes.now l.element-items l.element-index l.seen.items;
}
