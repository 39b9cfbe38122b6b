-- Laws of clocks, of what is one, and of conditions.
use Rattle.std.specs.Prelude.{◌≡◌, ℕ, ◌<◌, ◌↔◌, true, List, Option, Some, slice_get}
use Rattle.rational_time.specs.declared.ratio.Ratio.{Ratio}
use Rattle.rational_time.specs.Fraction.{IsTick}
use Rattle.flat_model.specs.declared.clock.Clock.{Clock}
use Rattle.sync_values.specs.declared.value.Value.{Value}
use Rattle.flat_model.specs.declared.expression.Expr.{Expr}
use Rattle.flat_model.specs.Values.{value_in, views_of}
use Rattle.flat_model.specs.Assignment.{Assignment}
use Rattle.flat_model.specs.Meaning.{value_of}
use Rattle.flat_model.specs.Occurrences.{bare_count}
use Rattle.flat_model.specs.Runnable.{IsCondition}
use Rattle.flat_model.specs.Clocks.{is_tick}
use Rattle.flat_model.specs.Given.{Row, IsGiven}
use Rattle.flat_model.specs.Moments.{AreInstants}
use Rattle.flat_model.specs.Setting.{Setting, site_answer}
use Rattle.flat_model.specs.Uses.{Use, AreUses}

-- the test of a clock holds exactly at the instants start + k * period
abbrev pub TickLaw : Type 0
TickLaw = (period start t : Ratio) → (is_tick period start t ≡ true) ↔ ((k : ℕ) × IsTick period start k t)

-- a model has one list of uses
abbrev pub OneUsesLaw : Type 0
OneUsesLaw = (s : Setting) (us vs : List Use) → AreUses s us → AreUses s vs → us ≡ vs

-- a moment has one row of given values
abbrev pub OneGivenLaw : Type 0
OneGivenLaw = (s : Setting) (S : Assignment) (uses : List Use) (m : ℕ) (a b : Row) → IsGiven s S uses m a → IsGiven s S uses m b → a ≡ b

-- a run has one list of instants
abbrev pub OneInstantsLaw : Type 0
OneInstantsLaw = (clocks : List Clock) (times : List Ratio) (stop : Ratio) (us vs : List Ratio) → AreInstants clocks times stop us → AreInstants clocks times stop vs → us ≡ vs

-- over the values of a moment, the condition of a site gives what the site answers
abbrev pub ConditionLaw : Type 0
ConditionLaw = (s : Setting) (S : Assignment) (site m : ℕ) (now : List (Option Value)) (condition : Expr) → slice_get s.clocking.sites site ≡ Some condition → IsCondition s condition
    → ((y : ℕ) → 0 < bare_count y condition → value_in now y ≡ S y m) → value_of condition (views_of now) ≡ site_answer s S site m
