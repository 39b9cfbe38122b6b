use Rattle.part_layout.proofs.Laid.{all_laid}
use Rattle.part_layout.proofs.law.laid_law.Goals as goal

pub returns : goal.returns
returns c = all_laid
