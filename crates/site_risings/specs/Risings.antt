-- Which sites are noted to rise at a moment.
use Rattle.std.specs.Prelude.{◌≡◌, ℕ, ◌<◌, ◌≤◌, ◌^◌, ◌&&◌, Bool, true, false, List, length, Option, Some, None, slice_get, unwrap_or}
use Rattle.rational_time.specs.declared.ratio.Ratio.{Ratio}
use Rattle.flat_model.specs.declared.clock.Moment.{Moment}
use Rattle.flat_model.specs.declared.clock.Moment.TheVariants.{At}
use Rattle.tick_plan.specs.Plans.{Planned, after_rise}

-- the answer of a condition is true, or false; without a value it is neither
abbrev pub is_high : Option Bool → Bool
is_high (Some b) = b
is_high None = false

abbrev pub is_low : Option Bool → Bool
is_low (Some true) = false
is_low (Some false) = true
is_low None = false

abbrev pub answer_of : List (Option Bool) → ℕ → Option Bool
answer_of answers site = unwrap_or (slice_get answers site) None

abbrev pub was_low : List Bool → ℕ → Bool
was_low low site = unwrap_or (slice_get low site) false

-- the plan where a site rises, or does not
abbrev pub noted_at : Bool → Planned → ℕ → Planned
noted_at true plan site = after_rise plan site
noted_at false plan site = plan

-- at an instant, with no site noted; or at Initial, where none was low before
pub record CanNote (answers : List (Option Bool)) (low : List Bool) (plan : Planned) : Type 0 where
  pub few : length answers < 2 ^ 32
  pub long : length answers ≡ length plan.noted
  pub wide : length low ≡ length plan.noted
  pub fresh : (site : ℕ) → site < length plan.noted → slice_get plan.noted site ≡ Some false
  pub instant : (site : ℕ) → was_low low site ≡ true → (at : Ratio) × (plan.given ≡ Some (At at))

-- the sites below a number are noted where they are high now and were low before, and what is low is kept
pub record NotedTo (answers : List (Option Bool)) (low : List Bool) (old : Planned) (count : ℕ) (plan : Planned) (kept : List Bool) : Type 0 where
  pub clocks : plan.clocks ≡ old.clocks
  pub ahead : plan.ahead ≡ old.ahead
  pub given : plan.given ≡ old.given
  pub risings : plan.risings ≡ old.risings
  pub long : length plan.noted ≡ length old.noted
  pub wide : length kept ≡ length low
  pub noted : (site : ℕ) → site < count → slice_get plan.noted site ≡ Some (is_high (answer_of answers site) && was_low low site)
  pub fresh : (site : ℕ) → count ≤ site → slice_get plan.noted site ≡ slice_get old.noted site
  pub lows : (site : ℕ) → site < count → slice_get kept site ≡ Some (is_low (answer_of answers site))
  pub still : (site : ℕ) → count ≤ site → slice_get kept site ≡ slice_get low site
