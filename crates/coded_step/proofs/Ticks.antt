-- Which clocks tick, by their places.
use Rattle.std.proofs.Common.{◌≡◌, refl, ap, ◌∙◌, ℕ, Bool, false, List, Option, Some, None, unwrap_or, slice_get}
use Rattle.std.specs.Prelude.{option_map}
use Rattle.std.proofs.lemmas.Option.{slice_get-map}
use Rattle.part_stretches.specs.Running.{tick_in}
use Rattle.tree_step.specs.declared.frame.ClockNow.{ClockNow}
use Rattle.coded_step.specs.private.Landing.{ticking_of}

pub tick_found : (clocks : List ClockNow) (place : ℕ) (clock : ClockNow) → slice_get clocks place ≡ Some clock → tick_in (ticking_of clocks) place ≡ clock.ticks
tick_found clocks place clock found = ap (λ o. unwrap_or o false) (slice_get-map (λ c. c.ticks) clocks place ∙ ap (option_map (λ c. c.ticks)) found)

pub tick_none : (clocks : List ClockNow) (place : ℕ) → slice_get clocks place ≡ None → tick_in (ticking_of clocks) place ≡ false
tick_none clocks place none = ap (λ o. unwrap_or o false) (slice_get-map (λ c. c.ticks) clocks place ∙ ap (option_map (λ c. c.ticks)) none)
