use Rattle.flat_model.proofs.MeaningLaws as laws
use Rattle.flat_model.proofs.meaning_law.known_value_law.Goals as goal

pub returns-clause-known : goal.returns-clause-known
returns-clause-known c = laws.known

pub returns-clause-last_value : goal.returns-clause-last_value
returns-clause-last_value c = laws.last_value
