use Rattle.moment_theory.proofs.SameUse.{sound_inputs, sound_taken}
use Rattle.moment_theory.proofs.law.sound_law.Goals as goal

pub returns : goal.returns
returns c = λ s uses runs are S m. (sound_inputs s uses runs are S m, sound_taken s uses runs are S m)
