-- From what a part is prepared, and what it then is. This project's own.
use Rattle.std.specs.Prelude.{◌≡◌, ℕ, List, ◌≤◌, length, map}
use Rattle.flat_model.specs.declared.clock.Clocking.{Clocking}
use Rattle.flat_model.specs.declared.model.FlatModel.{FlatModel}
use Rattle.flat_model.specs.Assignment.{Assignment}
use Rattle.flat_model.specs.Setting.{Setting}
use Rattle.flat_model.specs.Uses.{Use}
use Rattle.eq_order.specs.declared.uses.Use as answered
use Rattle.eq_order.specs.Order.{use_of, HaveSpines}
use Rattle.partition_step.specs.declared.part.Part.{Part}
use Rattle.partition_step.specs.Parts.{IsPiece, IsPartOf, StandsFor}

-- the uses of one base partition of a model, as its order has them, and a table with a place for each name
pub record IsPreparedFrom (s : Setting) (uses before after : List Use) (partition : ℕ) (flat : FlatModel) (clocking : Clocking) (own : List answered.Use) (places : List ℕ) : Type 0 where
  pub model : s.model ≡ flat
  pub clocking_is : s.clocking ≡ clocking
  pub piece : IsPiece s uses before (map use_of own) after partition
  pub spines : HaveSpines s.model.equations own
  pub wide : length s.model.names ≤ length places

-- the part of these uses stands for every assignment before its first moment
abbrev pub IsPrepared : FlatModel → Clocking → List answered.Use → List ℕ → List ℕ → Part → Type 0
IsPrepared flat clocking own old new part = (s : Setting) (uses before after : List Use) (partition : ℕ) → IsPreparedFrom s uses before after partition flat clocking own old
    → IsPartOf s (map use_of own) new part × ((S : Assignment) → StandsFor s S 0 part)
