-- From what the steps of a model are prepared, and what they then are. This project's own.
use Rattle.std.specs.Prelude.{◌≡◌, ℕ, Bool, List, map, Ok}
use Rattle.flat_model.specs.declared.clock.Clocking.{Clocking}
use Rattle.flat_model.specs.declared.model.FlatModel.{FlatModel}
use Rattle.flat_model.specs.Assignment.{Assignment}
use Rattle.flat_model.specs.Runnable.{IsRunnable}
use Rattle.flat_model.specs.Setting.{Setting}
use Rattle.eq_order.specs.declared.uses.Use as answered
use Rattle.eq_order.specs.Order.{use_of, Answers}
use Rattle.moment_theory.specs.Division.{AreUnheld}
use Rattle.run_stages.specs.Laws.{RestOnGroup}
use Rattle.partition_step.specs.Steps.{AreMeasured}
use Rattle.moment_body.specs.Stages.{AreStages}
use Rattle.moment_steps.specs.declared.staged.StagedSteps.{StagedSteps}
use Rattle.moment_steps.specs.Steps.{stages_of, stands_of}

-- a setting of this model and clocking that can be run, with the order of its uses; its sites rest on a group of names that no clock governs; and its instants can be measured
pub record IsPreparedFrom (s : Setting) (flat : FlatModel) (clocking : Clocking) (order : List answered.Use) : Type 0 where
  pub model : s.model ≡ flat
  pub clocking_is : s.clocking ≡ clocking
  pub runs : IsRunnable s
  pub ordered : Answers s (Ok order)
  pub group : ℕ → Bool
  pub unheld : AreUnheld s group
  pub rest : RestOnGroup s group
  pub measured : AreMeasured s.instants

-- the uses by their stages are those of the setting, and what is kept stands for every assignment before the first moment
pub record StandAtFirst (s : Setting) (order : List answered.Use) (steps : StagedSteps) : Type 0 where
  pub staged : AreStages s (map use_of order) (stages_of steps)
  pub stand : (A : Assignment) → stands_of steps s A 0

-- whatever setting it is
abbrev pub ArePrepared : FlatModel → Clocking → List answered.Use → StagedSteps → Type 0
ArePrepared flat clocking order steps = (s : Setting) → IsPreparedFrom s flat clocking order → StandAtFirst s order steps
