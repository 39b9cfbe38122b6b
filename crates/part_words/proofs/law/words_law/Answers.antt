use Rattle.part_words.proofs.SetWords.{words_set}
use Rattle.part_words.proofs.law.words_law.Goals as goal

pub returns : goal.returns
returns c = words_set
