-- The values of cells, copied to their names.
use Rattle.std.proofs.Common.{◌≡◌, refl, ap, ◌∙◌, sym, subst, ℕ, ◌<◌, ◌≤◌, List, length, Option, Some, None, slice_get, arith, ◌⊎◌, inl, inr}
use Rattle.std.specs.Prelude.{option_map}
use Rattle.std.proofs.lemmas.Bool.{cases_lt}
use Rattle.std.proofs.lemmas.Option.{none-some, same_Some, slice_get_within, slice_get_past}
use Rattle.sync_values.specs.declared.value.Value.{Value}
use Rattle.flat_model.specs.Values.{value_in}
use Rattle.flat_model.specs.Given.{Row}
use Rattle.flat_model.specs.Setting.{Setting, flattened}
use Rattle.tree_step.specs.declared.cell.Cell.{Cell}
use Rattle.tree_step.specs.declared.frame.ClockNow.{ClockNow}
use Rattle.tree_step.specs.declared.taking.Entry.{Entry}
use Rattle.tree_step.specs.Cells.{cell_in}
use Rattle.tree_step.specs.Takes.{IsSameCell}
use Rattle.partition_step.specs.Writing.{IsWritten}
use Rattle.partition_step.proofs.Lists.{some_at}
use Rattle.partition_step.proofs.Placing.{IsThere, there}
use Rattle.moment_steps.specs.declared.taking.UnclockedReads.{UnclockedReads}
use Rattle.moment_steps.specs.Settled.{IsSettled}
use Rattle.moment_steps.specs.Opening.{value_from, value_by}

still_there : (old new : Option Cell) (cell : Cell) → old ≡ Some cell → IsSameCell old new → (other : Cell) × (new ≡ Some other)
still_there None new cell is same = absurd (none-some cell is)
still_there (Some old) None cell is same = absurd same
still_there (Some old) (Some other) cell is same = (other, refl)

module _ (s : Setting) (pure waiting : List Entry) (noted : UnclockedReads) (always : List ClockNow) (numbers : List ℕ) (settled : IsSettled s pure waiting noted always numbers)
    (shown new : List Cell) (open_there : (x : ℕ) → x < length s.model.names → (cell : Cell) × (cell_in numbers shown x ≡ Some cell)) (kept : (x : ℕ) → IsSameCell (cell_in numbers shown x) (cell_in numbers new x))
    (now after : List (Option Value)) (wide : length now ≡ length s.model.names) (copies : IsWritten (value_by new) now after)
    (own : Row) (holds : (x : ℕ) (cell : Cell) → cell_in numbers new x ≡ Some cell → cell.now ≡ own x) (outside : (x : ℕ) → length s.model.names ≤ x → own x ≡ None) where
  within : (x : ℕ) → x < length s.model.names → own x ≡ value_in after x
  within x lt =
      let (cell, there_open) = open_there x lt in
      let (other, is) = still_there (cell_in numbers shown x) (cell_in numbers new x) cell there_open (kept x) in
      let at = there numbers new x other is in
      let place_is : at.place ≡ x = same_Some at.place x (sym at.placed ∙ settled.numbered x lt) in
      let found : slice_get new x ≡ Some other = ap (slice_get new) (sym place_is) ∙ at.found in
      let (value, value_found) = some_at now x (omega (arith, lt, wide)) in
      sym (ap flattened (copies.each x ∙ ap (option_map (value_by new x)) value_found ∙ ap (λ o. Some (value_from o value)) found) ∙ holds x other is)

  past : (x : ℕ) → length s.model.names ≤ x → own x ≡ value_in after x
  past x le = outside x le ∙ sym (ap flattened (slice_get_past after x (let size = copies.size in omega (arith, le, size, wide))))

  pub copied : (x : ℕ) → own x ≡ value_in after x
  copied x = elim (cases_lt x (length s.model.names)) [
    | inl lt ↦ within x lt
    | inr le ↦ past x le
  ]
