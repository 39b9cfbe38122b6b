-- Clocks of which each is on one grid are on it together.
use Rattle.std.proofs.Common.{◌≡◌, refl, ℕ, suc, ◌<◌, ◌^◌, List, [], ◌∷◌, get_or, Some, slice_get}
use Rattle.std.proofs.lemmas.Option.{slice_get-get_or}
use Rattle.rational_time.specs.Multiple.{AllDivide}
use Rattle.flat_model.specs.declared.clock.Clock.{Clock}
use Rattle.flat_model.specs.declared.clock.Clock.TheVariants.{Periodic, Event}
use Rattle.flat_model.specs.declared.clock.Clocking.{Clocking}
use Rattle.flat_model.specs.declared.expression.Expr.{Expr}
use Rattle.flat_model.specs.Runnable.{AreClocks, CanRun, denominators}

-- one clock can be run, on the grid
abbrev pub IsFine : List Expr → ℕ → Clock → Type 0
IsFine sites grid clock = CanRun sites clock × AllDivide (denominators (clock ∷ [])) grid

join : (grid : ℕ) (first : Clock) (rest : List Clock) → AllDivide (denominators (first ∷ [])) grid → AllDivide (denominators rest) grid → AllDivide (denominators (first ∷ rest)) grid
join grid (Periodic period start) rest here later = (here.0, (here.1.0, later))
join grid (Event site factor shift) rest here later = later

all_divide : (sites : List Expr) (grid : ℕ) (clocks : List Clock) → ((k : ℕ) (clock : Clock) → slice_get clocks k ≡ Some clock → IsFine sites grid clock) → AllDivide (denominators clocks) grid
all_divide sites grid [] fine = tt
all_divide sites grid (first ∷ rest) fine = join grid first rest (fine 0 first refl).1 (all_divide sites grid rest (λ k clock found. fine (suc k) clock found))

pub all_fine : (clocking : Clocking) (grid : ℕ) → 0 < grid → grid < 2 ^ 40
    → ((k : ℕ) (clock : Clock) → slice_get clocking.clocks k ≡ Some clock → IsFine clocking.sites grid clock) → AreClocks clocking
all_fine clocking grid some small fine = record {
  each = λ k d within. (fine k (get_or clocking.clocks k d) (slice_get-get_or clocking.clocks k d within)).0;
  grid = record { multiple = grid; positive = some; below = small; divided = all_divide clocking.sites grid clocking.clocks fine };
}
