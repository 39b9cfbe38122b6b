-- What `order` and `stages` answer, as the laws of a run have it. This project's own.
use Rattle.std.specs.Prelude.{◌≡◌, ℕ, Bool, List, map, Ok}
use Rattle.eq_order.specs.declared.uses.Use as answered
use Rattle.eq_order.specs.Order.{use_of, Answers}
use Rattle.flat_model.specs.Order.{IsOrder}
use Rattle.flat_model.specs.Runnable.{IsRunnable}
use Rattle.flat_model.specs.Setting.{Setting}
use Rattle.flat_model.specs.Uses.{Use}
use Rattle.moment_theory.specs.Division.{ArePure, AreUnheld, ArePartitionsBelow, moment_order}
use Rattle.moment_theory.specs.Free.{IsOrdered}
use Rattle.moment_order.specs.declared.stage.Stage.{Stage}
use Rattle.moment_order.specs.Stages.{AreStages, staged_order}

-- the uses of an answer reach every name and take every equation
abbrev pub AnswerLaw : Type 0
AnswerLaw = (s : Setting) (order : List answered.Use) → Answers s (Ok order) → IsOrder s (map use_of order)

-- and those that reach names on which the conditions of sites rest, then those of each base partition, then the other unclocked ones are a free order
abbrev pub MomentLaw : Type 0
MomentLaw = (s : Setting) (order : List answered.Use) (group : ℕ → Bool) (count : ℕ) → IsRunnable s → Answers s (Ok order) → AreUnheld s group
    → ArePartitionsBelow s count → IsOrdered s (map use_of order) (moment_order s (λ entry. group entry.name) count (map use_of order))

-- uses have one division into stages
abbrev pub OneDivisionLaw : Type 0
OneDivisionLaw = (s : Setting) (uses : List Use) (a b : List Stage) → AreStages s uses a → AreStages s uses b → a ≡ b

-- where any set of uses is pure, that of the stages is
abbrev pub PureLaw : Type 0
PureLaw = (s : Setting) (uses : List Use) (stages : List Stage) (other : Use → Bool) → ArePure s uses other → (are : AreStages s uses stages) → ArePure s uses are.pure

-- the uses in the order of their stages are a free order
abbrev pub StagesLaw : Type 0
StagesLaw = (s : Setting) (order : List answered.Use) (stages : List Stage) (group : ℕ → Bool) (count : ℕ) → IsRunnable s → Answers s (Ok order) → AreUnheld s group
    → ArePartitionsBelow s count → AreStages s (map use_of order) stages → IsOrdered s (map use_of order) (staged_order count stages (map use_of order))
