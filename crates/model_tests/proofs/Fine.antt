-- Clocks of which each is on one grid are on it together.
use Rattle.std.proofs.Common.{◌≡◌, refl, ℕ, zero, suc, ◌<◌, ◌^◌, List, [], ◌∷◌, length, get_or, Some, slice_get, All, arith}
use Rattle.std.proofs.lemmas.Option.{slice_get-get_or}
use Rattle.rational_time.specs.Multiple.{AllDivide, HasMultipleBelow}
use Rattle.flat_model.specs.declared.clock.Clock.{Clock}
use Rattle.flat_model.specs.declared.clock.Clock.TheVariants.{Periodic, Event}
use Rattle.flat_model.specs.declared.clock.Clocking.{Clocking}
use Rattle.flat_model.specs.declared.expression.Expr.{Expr}
use Rattle.flat_model.specs.Runnable.{AreClocks, CanRun, denominators}

-- one clock can be run, on the grid of 60
abbrev pub IsFine : List Expr → Clock → Type 0
IsFine sites clock = CanRun sites clock × AllDivide (denominators (clock ∷ [])) 60

join : (first : Clock) (rest : List Clock) → AllDivide (denominators (first ∷ [])) 60 → AllDivide (denominators rest) 60 → AllDivide (denominators (first ∷ rest)) 60
join (Periodic period start) rest here later = (here.0, (here.1.0, later))
join (Event site factor shift) rest here later = later

all_divide : (sites : List Expr) (clocks : List Clock) → ((k : ℕ) (clock : Clock) → slice_get clocks k ≡ Some clock → IsFine sites clock) → AllDivide (denominators clocks) 60
all_divide sites [] fine = tt
all_divide sites (first ∷ rest) fine = join first rest (fine 0 first refl).1 (all_divide sites rest (λ k clock found. fine (suc k) clock found))

pub all_fine : (clocking : Clocking) → ((k : ℕ) (clock : Clock) → slice_get clocking.clocks k ≡ Some clock → IsFine clocking.sites clock) → AreClocks clocking
all_fine clocking fine = record {
  each = λ k d within. (fine k (get_or clocking.clocks k d) (slice_get-get_or clocking.clocks k d within)).0;
  grid = record { multiple = 60; positive = omega arith; below = omega arith; divided = all_divide clocking.sites clocking.clocks fine };
}
