-- The stages of a run's moments. This project's own.
use Rattle.std.specs.Prelude.{◌≡◌, ◌≢◌, ◌⊎◌, ℕ, ◌<◌, Bool, true, List, map, Some, slice_get, Ok}
use Rattle.flat_model.specs.declared.expression.Expr.{Expr}
use Rattle.flat_model.specs.declared.model.FlatName.{FlatName}
use Rattle.flat_model.specs.declared.model.NameKind.TheVariants as kind
use Rattle.flat_model.specs.Occurrences.{bare_count}
use Rattle.flat_model.specs.Runnable.{IsRunnable}
use Rattle.flat_model.specs.Setting.{Setting}
use Rattle.flat_model.specs.Tables.{IsInput}
use Rattle.eq_order.specs.declared.uses.Use as answered
use Rattle.eq_order.specs.Order.{use_of, Answers}
use Rattle.moment_theory.specs.Division.{AreUnheld, ArePartitionsBelow}
use Rattle.moment_order.specs.declared.stage.Stage.{Stage}
use Rattle.moment_order.specs.declared.stage.Stage.TheVariants.{Pure, Waiting}
use Rattle.moment_order.specs.Stages.{AreStages, uses_at, parts_at}
use Rattle.moment_join.specs.Sites.{ReachSites}
use Rattle.moment_join.specs.Staged.{AreStagesOf}

-- a name of a group that has values
pub record IsGrouped (s : Setting) (group : ℕ → Bool) (y : ℕ) : Type 0 where
  pub own : group y ≡ true
  pub name : FlatName
  pub found : slice_get s.model.names y ≡ Some name
  pub valued : name.kind ≢ kind.Clock

-- what the condition of a site reads is an input, or a name of the group that has values
abbrev pub RestOnGroup : Setting → (ℕ → Bool) → Type 0
RestOnGroup s group = (site y : ℕ) (condition : Expr) → slice_get s.clocking.sites site ≡ Some condition → 0 < bare_count y condition → IsInput s.model.names y ⊎ IsGrouped s group y

-- the uses of an answer by their stages are those of a moment's stages, and the pure ones reach what sites read
abbrev pub StagedLaw : Type 0
StagedLaw = (s : Setting) (order : List answered.Use) (stages : List Stage) (group : ℕ → Bool) (count : ℕ) → IsRunnable s → Answers s (Ok order) → AreUnheld s group → RestOnGroup s group
    → ArePartitionsBelow s count → AreStages s (map use_of order) stages
    → AreStagesOf s (map use_of order) (uses_at Pure stages (map use_of order)) (parts_at stages (map use_of order) 0 count) (uses_at Waiting stages (map use_of order))
    × ReachSites s (uses_at Pure stages (map use_of order))
