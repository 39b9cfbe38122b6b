-- The uses of a model by the stages of a moment. This project's own.
use Rattle.std.specs.Prelude.{◌≡◌, ℕ, List, Some}
use Rattle.flat_model.specs.declared.clock.Moment.{Moment}
use Rattle.flat_model.specs.Assignment.{Assignment}
use Rattle.flat_model.specs.Meets.{MeetsBefore}
use Rattle.flat_model.specs.Moments.{moment_at}
use Rattle.flat_model.specs.Setting.{Setting}
use Rattle.flat_model.specs.Uses.{Use}
use Rattle.moment_join.specs.Sites.{ReachSites}
use Rattle.moment_join.specs.Staged.{AreStagesOf}
use Rattle.moment_body.specs.declared.model.ClockedModel.{ClockedModel}

-- the pure uses, those of each piece, and those that wait for a clock
pub record Stages : Type 0 where
  pub pure : List Use
  pub pieces : List (List Use)
  pub waiting : List Use

-- they are the stages of a setting's uses, and the pure ones reach what its sites read
pub record AreStages (s : Setting) (uses : List Use) (stages : Stages) : Type 0 where
  pub are : AreStagesOf s uses stages.pure stages.pieces stages.waiting
  pub reach : ReachSites s stages.pure

-- the model, its clocking and its table are those of a setting
pub record IsModelOf (s : Setting) (model : ClockedModel) : Type 0 where
  pub flat : model.flat ≡ s.model
  pub clocking : model.clocking ≡ s.clocking
  pub table : model.table ≡ s.table

-- a moment of a setting, before which an assignment meets the model
pub record IsMoment (s : Setting) (uses : List Use) (stages : Stages) (A : Assignment) (n : ℕ) (at : Moment) : Type 0 where
  pub staged : AreStages s uses stages
  pub meets : MeetsBefore s A n
  pub here : moment_at s.instants n ≡ Some at
