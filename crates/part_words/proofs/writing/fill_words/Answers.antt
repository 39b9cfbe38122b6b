use Rattle.std.proofs.Common.{rules, ◌≡◌, ◌∙◌, refl, ◌<◌, ◌≤◌, length, length-set, get_or, Some, slice_get, w64, to_z, of_z}
use Rattle.std.proofs.lemmas.Option.{slice_get-get_or}
use Rattle.tree_step.specs.Starts.{sight_of}
use Rattle.part_words.specs.Words.{key_word}
use Rattle.part_words.proofs.Filling.{filled_next, filled_all}
use Rattle.part_words.proofs.writing.fill_words.Goals as goal

pub loop-c-preserved : goal.loop-c-preserved
loop-c-preserved c =
    let within : c.loop-c.c < length c.args.keys.now = search rules in
    let whole : to_z w64 (of_z w64 c.word_for.result) ≡ c.word_for.result = search rules in
    filled_next (sight_of c.args.scene.now) c.args.cells.now c.args.keys.now c.args.words.now c.loop-c.c c.loop-c.words _ _ (to_z w64 (of_z w64 c.word_for.result)) c.loop-c.invariant c.requires.long (slice_get-get_or c.args.keys.now c.loop-c.c _ within) (whole ∙ c.word_for.ensures)
    (length-set c.loop-c.words c.loop-c.c (to_z w64 (of_z w64 c.word_for.result))) refl

pub returns-clause-words : goal.returns-clause-words
returns-clause-words c =
    let all : length c.args.keys.now ≤ c.loop-c.c = search rules in
    filled_all (sight_of c.args.scene.now) c.args.cells.now c.args.keys.now c.args.words.now c.loop-c.c c.loop-c.words c.loop-c.invariant all
