use Rattle.tree_step.specs.Starts.{sight_of}
use Rattle.part_words.proofs.Filling.{AreFilledTo}
use Rattle.part_words.proofs.writing.fill_words.Given as goal

abbrev pub invariant-loop-c : goal.invariant-loop-c
invariant-loop-c l = AreFilledTo (sight_of l.scene) l.cells l.keys l.fn.words l.c l.words
