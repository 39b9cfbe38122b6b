-- What the cells of a part hold at a moment, and what they keep.
use Rattle.std.proofs.Common.{◌≡◌, refl, ap, sym, subst, ◌∙◌, ℕ, zero, suc, ◌-◌, ◌<◌, Bool, true, false, if◌then◌else◌, ℤ, List, Option, Some, None, is_none, arith}
use Rattle.std.proofs.lemmas.Option.{none-some}
use Rattle.sync_values.specs.Arithmetic.{fitted}
use Rattle.sync_values.specs.declared.value.Value.{Value}
use Rattle.sync_values.specs.declared.value.Value.TheVariants as value
use Rattle.flat_model.specs.Assignment.{Assignment, tick_before, value_at_tick, previous_value}
use Rattle.flat_model.specs.Given.{Row, with_row}
use Rattle.flat_model.specs.Meaning.{whole_of}
use Rattle.flat_model.specs.Setting.{Setting, class_of_name, clock_of, start_of, class_ticks, name_ticks, interval_at}
use Rattle.flat_model.proofs.Agreement.{SameBefore, class_ticks_same, tick_before_same, previous_same}
use Rattle.moment_theory.proofs.Groups.{interval_same}
use Rattle.moment_theory.proofs.Rows.{row_now, row_before, unclocked_at_first}
use Rattle.step_code.specs.declared.machine.Op.TheVariants.{Guard}
use Rattle.step_code.specs.Machine.{word_at, result_of}
use Rattle.step_code.specs.Code.{Cells}
use Rattle.side_theory.specs.Kept.{HasWord, IsLaidOut, Keeps, IsSet, IsClockSet}
use Rattle.side_theory.specs.Runs.{HoldsRow}

module _ (s : Setting) (S : Assignment) (m : ℕ) (row : Row) (at : Cells) (t : ℕ) (cells : List ℤ) where
  abbrev A : Assignment
  A = with_row S m row

  before : SameBefore A S m
  before = row_before S m row

  ticks_before : (c : Option ℕ) (j : ℕ) → j < m → class_ticks s A c j ≡ class_ticks s S c j
  ticks_before c j lt = class_ticks_same s A S c j j (λ y n le. before y n (omega (arith, le, lt))) (omega arith)

  pub previous_is : (x : ℕ) → previous_value (name_ticks s A x) (A x) (start_of s x) m ≡ previous_value (name_ticks s S x) (S x) (start_of s x) m
  previous_is x = previous_same (name_ticks s A x) (name_ticks s S x) (A x) (S x) (start_of s x) m (λ j lt. ticks_before (class_of_name s x) j lt) (λ j lt. before x j lt)

  -- the last value at the moment: that of the row at a tick, else the one before
  last_word : IsSet s S m row at t cells → (x c : ℕ) (v : Value) → (at 0).now x ≡ Some c → value_at_tick (A x) (start_of s x) (tick_before (name_ticks s A x) (suc m)) ≡ Some v → HasWord t cells c v
  last_word set x c v is has = by_tick (name_ticks s A x m) refl has
    where
      by_tick : (b : Bool) → name_ticks s A x m ≡ b → value_at_tick (A x) (start_of s x) (if b then Some m else tick_before (name_ticks s A x) m) ≡ Some v → HasWord t cells c v
      by_tick true tick has = set.now x c v is (sym (row_now S m row x) ∙ has)
      by_tick false rests has = set.kept x c v is rests (sym (previous_is x) ∙ has)

  pub keeps_next : IsSet s S m row at t cells → Keeps s A (suc m) at t cells
  keeps_next set = record { last = λ x c v is has. last_word set x c v is has; const = set.const }

  module _ (class : ℕ) (laid : IsLaidOut at) (ticks : class_ticks s A (Some class) m ≡ true) (set : IsSet s S m row at t cells) (clock : IsClockSet s S m class at t cells) where
    here : m ≡ m - 0
    here = omega arith

    not_first : {B : Type 0} → m ≡ 0 → B
    not_first at_0 = absurd (none-some class (sym (unclocked_at_first s A (Some class) (subst (λ k. class_ticks s A (Some class) k ≡ true) at_0 ticks))))

    no_cell : {B : Type 0} (o : Option ℕ) (c : ℕ) → o ≡ None → o ≡ Some c → B
    no_cell o c none some = absurd (none-some c (sym none ∙ some))

    now_word : (k x c : ℕ) (v : Value) → (at k).now x ≡ Some c → A x (m - k) ≡ Some v → HasWord t cells c v
    now_word zero x c v is has = set.now x c v is (sym (row_now S m row x) ∙ subst (λ n. A x n ≡ Some v) (sym here) has)
    now_word (suc zero) x c v is has = by_moment m refl
      where
        by_moment : (n : ℕ) → m ≡ n → HasWord t cells c v
        by_moment zero at_0 = not_first at_0
        by_moment (suc k) at_k =
            let back : k ≡ m - 1 = omega (arith, at_k) in
            set.left x c k v is at_k (sym (before x k (omega (arith, at_k))) ∙ subst (λ n. A x n ≡ Some v) (sym back) has)
    now_word (suc (suc k)) x c v is has = no_cell _ c (laid.far k x) is

    last_words : (k x c : ℕ) (v : Value) → (at k).last x ≡ Some c → value_at_tick (A x) (start_of s x) (tick_before (name_ticks s A x) (suc (m - k))) ≡ Some v → HasWord t cells c v
    last_words zero x c v is has = last_word set x c v (laid.last x c is) (subst (λ n. value_at_tick (A x) (start_of s x) (tick_before (name_ticks s A x) (suc n)) ≡ Some v) (sym here) has)
    last_words (suc zero) x c v is has = by_moment m refl
      where
        by_moment : (n : ℕ) → m ≡ n → HasWord t cells c v
        by_moment zero at_0 = not_first at_0
        by_moment (suc k) at_k =
            let back : suc (m - 1) ≡ m = omega (arith, at_k) in
            set.left_last x c v is (sym (previous_is x) ∙ subst (λ n. value_at_tick (A x) (start_of s x) (tick_before (name_ticks s A x) n) ≡ Some v) back has)
    last_words (suc (suc k)) x c v is has = no_cell _ c (laid.far_last k x) is

    previous_words : (k x c : ℕ) (v : Value) → (at k).previous x ≡ Some c → previous_value (name_ticks s A x) (A x) (start_of s x) (m - k) ≡ Some v → HasWord t cells c v
    previous_words zero x c v is has = set.previous x c v is (sym (previous_is x) ∙ subst (λ n. previous_value (name_ticks s A x) (A x) (start_of s x) n ≡ Some v) (sym here) has)
    previous_words (suc k) x c v is has = no_cell _ c (laid.previous k x) is

    first_word : (k c : ℕ) → (at k).first ≡ Some c → HasWord t cells c (value.Bool (is_none (tick_before (class_ticks s A (Some class)) (m - k))))
    first_word zero c is =
        let same : tick_before (class_ticks s S (Some class)) m ≡ tick_before (class_ticks s A (Some class)) (m - 0) = sym (tick_before_same (class_ticks s A (Some class)) (class_ticks s S (Some class)) m (λ j lt. ticks_before (Some class) j lt)) ∙ ap (tick_before (class_ticks s A (Some class))) here in
        subst (λ o. HasWord t cells c (value.Bool (is_none o))) same (clock.first c is)
    first_word (suc k) c is = no_cell _ c (laid.first k) is

    interval_word : (k n c : ℕ) → (at k).interval n ≡ Some c → (c < t) × ((at k).unfit n < t)
        × (result_of Guard (word_at cells ((at k).unfit n)) (word_at cells c) ≡ fitted (whole_of (interval_at s (class_ticks s A (Some class)) (m - k) (clock_of s (Some class))) n))
    interval_word zero n c is =
        let same : interval_at s (class_ticks s S (Some class)) m (clock_of s (Some class)) ≡ interval_at s (class_ticks s A (Some class)) (m - 0) (clock_of s (Some class)) =
        sym (interval_same s (class_ticks s A (Some class)) (class_ticks s S (Some class)) m (clock_of s (Some class)) (λ j lt. ticks_before (Some class) j lt)) ∙ ap (λ k. interval_at s (class_ticks s A (Some class)) k (clock_of s (Some class))) here in
        let h = clock.interval n c is in
        (h.0, h.1, h.2 ∙ ap (λ z. fitted (whole_of z n)) same)
    interval_word (suc k) n c is = no_cell _ c (laid.interval k n) is

    pub holds_row : HoldsRow s S m row class at t cells
    holds_row = record {
      now = now_word;
      previous = previous_words;
      last = last_words;
      const = λ k v c is. set.const k c v is;
      first = first_word;
      interval = interval_word;
    }
