-- Laws of groups that are given to shares.
use Rattle.std.specs.Prelude.{◌≡◌, ℕ, Bool, List, map, length, Some, slice_get, Ok}
use Rattle.flat_model.specs.Runnable.{IsRunnable}
use Rattle.flat_model.specs.Setting.{Setting}
use Rattle.flat_model.specs.Uses.{Use}
use Rattle.eq_order.specs.declared.uses.Use as answered
use Rattle.eq_order.specs.Order.{use_of, Answers}
use Rattle.moment_theory.specs.Division.{AreUnheld, ArePartitionsBelow}
use Rattle.moment_order.specs.declared.stage.Stage.{Stage}
use Rattle.moment_order.specs.declared.stage.Stage.TheVariants.{Pure}
use Rattle.moment_order.specs.Stages.{AreStages, uses_at}
use Rattle.part_groups.specs.Groups.{AreGroups}
use Rattle.run_stages.specs.Laws.{RestOnGroup}
use Rattle.share_join.specs.Shares.{Share}
use Rattle.group_shares.specs.Dividing.{shares_of_groups, AreGiven, MayRunApart, HasItsGroups}

-- the groups of the units of a model, given to shares in whatever way, are shares that may run apart
abbrev pub SharesLaw : Type 0
SharesLaw = (s : Setting) (order : List answered.Use) (stages : List Stage) (group : ℕ → Bool) (count : ℕ) → IsRunnable s → Answers s (Ok order) → AreUnheld s group → RestOnGroup s group
    → ArePartitionsBelow s count → AreStages s (map use_of order) stages → (groups : List ℕ) → AreGroups s.model.equations count stages (map use_of order) groups
    → (share_of : ℕ → ℕ) (number : ℕ) → AreGiven share_of number groups
    → MayRunApart s (map use_of order) (uses_at Pure stages (map use_of order)) (shares_of_groups share_of number count stages (map use_of order) groups)

-- there are so many shares, each with the units whose group is given to it
abbrev pub GivenLaw : Type 0
GivenLaw = (share_of : ℕ → ℕ) (number count : ℕ) (stages : List Stage) (uses : List Use) (groups : List ℕ)
    → (length (shares_of_groups share_of number count stages uses groups) ≡ number)
    × ((k : ℕ) (share : Share) → slice_get (shares_of_groups share_of number count stages uses groups) k ≡ Some share → HasItsGroups share_of count stages uses groups k share)
