-- What is kept between the moments of a run. This project's own.
use Rattle.std.specs.Prelude.{◌≡◌, ℕ, suc, ◌^◌, ◌<◌, false, List, length}
use Rattle.flat_model.specs.Assignment.{Assignment}
use Rattle.flat_model.specs.Setting.{Setting, site_answer, is_false}
use Rattle.flat_model.specs.Trace.{columns_of}
use Rattle.flat_model.specs.Uses.{Use}
use Rattle.site_risings.specs.Risings.{was_low}
use Rattle.moment_body.specs.declared.model.ClockedModel.{ClockedModel}
use Rattle.moment_body.specs.declared.sheet.Sheet.{Sheet}
use Rattle.moment_body.specs.Stages.{Stages, AreStages, IsModelOf}
use Rattle.moment_body.specs.Stepping.{Standing}

-- a sheet has the columns of a setting, and room for the values of its names, the answers of its sites and its columns
pub record IsSheetOf (s : Setting) (sheet : Sheet) : Type 0 where
  pub columns : sheet.columns ≡ columns_of s.model.names
  pub few : length s.clocking.sites < 2 ^ 32
  pub now : length sheet.now.items ≡ length s.model.names
  pub answers : length sheet.answers.items ≡ length s.clocking.sites
  pub low : length sheet.low.items ≡ length s.clocking.sites
  pub row : length sheet.row.items ≡ length (columns_of s.model.names)

-- which sites were low at the moment before n; before Initial none was
pub record AreLow (s : Setting) (A : Assignment) (n : ℕ) (sheet : Sheet) : Type 0 where
  pub before : (site k : ℕ) → n ≡ suc k → was_low sheet.low.items site ≡ is_false (site_answer s A site k)
  pub first : (site : ℕ) → n ≡ 0 → was_low sheet.low.items site ≡ false

-- what is kept is that of an assignment before a moment of a setting
pub record IsKeptBy (stages : Stages) (stands : Standing) (model : ClockedModel) (sheet : Sheet) (s : Setting) (A : Assignment) (n : ℕ) : Type 0 where
  pub model_is : IsModelOf s model
  pub sheet_is : IsSheetOf s sheet
  pub uses : List Use
  pub staged : AreStages s uses stages
  pub low : AreLow s A n sheet
  pub stands_for : stands s A n
