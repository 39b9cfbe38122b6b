-- What is asked of a runner whose rows are printed: for what it stands. This project's own.
use Rattle.std.specs.Prelude.{◌≡◌, ◌^◌, ◌<◌, ℕ, length}
use Rattle.flat_model.specs.declared.model.FlatModel.{FlatModel}
use Rattle.flat_model.specs.Assignment.{Assignment}
use Rattle.flat_model.specs.Setting.{Setting}

-- it stands before its first moment for some setting of this model, whose instants are not too many to be counted
pub record IsAtStart (stands : Setting → Assignment → ℕ → Type 0) (model : FlatModel) : Type 0 where
  pub setting : Setting
  pub assignment : Assignment
  pub stands_for : stands setting assignment 0
  pub model_is : setting.model ≡ model
  pub few : length setting.instants < 2 ^ 32
