-- One entry, from what is found of its clock and its equation.
use Rattle.std.proofs.Common.{◌≡◌, ap, sym, ◌∙◌, ℕ, ◌<◌, true, false, List, length, get_or, Some, slice_get, Result}
use Rattle.std.proofs.lemmas.Option.{slice_get-get_or}
use Rattle.sync_values.specs.declared.value.Value.{Value}
use Rattle.sync_values.specs.declared.value.Fail.{Fail}
use Rattle.flat_model.specs.declared.equation.Equation.{Equation}
use Rattle.eq_orient.specs.Solving.{Solves}
use Rattle.tree_step.specs.declared.cell.Cell.{Cell}
use Rattle.tree_step.specs.declared.frame.ClockNow.{ClockNow}
use Rattle.tree_step.specs.declared.taking.Entry.{Entry}
use Rattle.tree_step.specs.Starts.{Sight}
use Rattle.tree_step.specs.private.Taking.{ready_in, is_ready, views_by, IsSolvable, CanTake, SolvesBy}

-- what stands at a place is found there
pub found_at : {A : Type 0} (xs : List A) (i : ℕ) (x : A) → i < length xs → x ≡ get_or xs i x → slice_get xs i ≡ Some x
found_at xs i x within is = slice_get-get_or xs i x within ∙ ap Some (sym is)

module _ (sight : Sight) (cells : List Cell) (entry : Entry) (clock : ClockNow) (equation : Equation) (clock_is : slice_get sight.clocks entry.clock ≡ Some clock) (equation_is : slice_get sight.equations entry.equation ≡ Some equation) where
  pub form : is_ready sight cells entry ≡ ready_in sight.places cells entry.name (Some clock) (Some equation)
  form = ap (λ o. ready_in sight.places cells entry.name o (slice_get sight.equations entry.equation)) clock_is ∙ ap (ready_in sight.places cells entry.name (Some clock)) equation_is

  pub unready_at : ready_in sight.places cells entry.name (Some clock) (Some equation) ≡ false → is_ready sight cells entry ≡ false
  unready_at not = form ∙ not

  pub solvable_at : ready_in sight.places cells entry.name (Some clock) (Some equation) ≡ true → CanTake sight cells entry → IsSolvable sight cells entry clock equation
  solvable_at ready can = can (form ∙ ready) clock equation clock_is equation_is

  pub solves_at : ready_in sight.places cells entry.name (Some clock) (Some equation) ≡ true → (result : Result Value Fail) → Solves entry.name equation (views_by sight cells clock) result → SolvesBy sight cells entry result
  solves_at ready result solves = record { clock = clock; equation = equation; clock_found = clock_is; found = equation_is; ready = form ∙ ready; solves = solves }
