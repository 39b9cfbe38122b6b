use Rattle.flat_model.proofs.MeaningLaws as laws
use Rattle.flat_model.proofs.meaning_law.solvable_law.Goals as goal

pub returns-clause-held : goal.returns-clause-held
returns-clause-held c = laws.held_aside

pub returns-clause-converted : goal.returns-clause-converted
returns-clause-converted c = laws.converted_aside
