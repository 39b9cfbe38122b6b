-- Last values from one moment to the next.
use Rattle.std.proofs.Common.{◌≡◌, ℕ, suc, Bool, true, false, Some, if◌then◌else◌, arith}
use Rattle.flat_model.specs.Assignment.{Assignment, tick_before, value_at_tick, previous_value}
use Rattle.flat_model.specs.Given.{Row, with_row}
use Rattle.flat_model.specs.Setting.{Setting, class_of_name, start_of, name_ticks}
use Rattle.flat_model.proofs.Agreement.{previous_same, class_ticks_same}
use Rattle.moment_theory.proofs.Rows.{row_now, row_before}

pub kept_next : (s : Setting) (A : Assignment) (n : ℕ) (last : Row) (x : ℕ)
    → previous_value (name_ticks s (with_row A n last) x) (with_row A n last x) (start_of s x) (suc n)
    ≡ (if name_ticks s (with_row A n last) x n then last x else previous_value (name_ticks s A x) (A x) (start_of s x) n)
kept_next s A n last x = by_tick (name_ticks s (with_row A n last) x n)
  where
    before : previous_value (name_ticks s (with_row A n last) x) (with_row A n last x) (start_of s x) n ≡ previous_value (name_ticks s A x) (A x) (start_of s x) n
    before = previous_same (name_ticks s (with_row A n last) x) (name_ticks s A x) (with_row A n last x) (A x) (start_of s x) n
        (λ j lt. class_ticks_same s (with_row A n last) A (class_of_name s x) j j (λ y k le. row_before A n last y k (omega (arith, lt, le))) (omega arith))
        (λ j lt. row_before A n last x j lt)

    by_tick : (b : Bool) → value_at_tick (with_row A n last x) (start_of s x) (if b then Some n else tick_before (name_ticks s (with_row A n last) x) n)
        ≡ (if b then last x else previous_value (name_ticks s A x) (A x) (start_of s x) n)
    by_tick true = row_now A n last x
    by_tick false = before
