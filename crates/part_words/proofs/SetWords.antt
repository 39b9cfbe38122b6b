-- Words that are filled for a moment are set for it.
use Rattle.std.proofs.Common.{◌≡◌, refl, ap, sym, subst, ◌∙◌, ℕ, zero, suc, ◌<◌, ◌^◌, ◌*◌, ◌-◌, Bool, true, false, ℤ, pos, negsuc, nat_lt, List, length, Option, Some, None, IsSome, unwrap_or, Result, Ok, Err, is_none, slice_get, if◌then◌else◌, arith}
use Rattle.std.proofs.lemmas.Bool.{false≢true}
use Rattle.std.proofs.lemmas.Option.{same_Some, none-some}
use Rattle.sync_values.specs.Arithmetic.{fitted}
use Rattle.sync_values.specs.Relation.{rank}
use Rattle.sync_values.specs.declared.value.Value.{Value}
use Rattle.sync_values.specs.declared.value.Value.TheVariants as value
use Rattle.sync_values.specs.declared.value.Fail.{Fail}
use Rattle.sync_values.specs.declared.value.Fail.TheVariants.{TooLarge}
use Rattle.flat_model.specs.declared.clock.Elapsed.{Elapsed}
use Rattle.flat_model.specs.declared.clock.Elapsed.TheVariants.{Period, Between}
use Rattle.flat_model.specs.Assignment.{Assignment, tick_before, previous_value}
use Rattle.flat_model.specs.Given.{Row}
use Rattle.flat_model.specs.Intervals.{length_of, IsLengthOf}
use Rattle.flat_model.specs.Meaning.{whole_of}
use Rattle.flat_model.specs.Setting.{Setting, clock_of, start_of, class_ticks, name_ticks, interval_at}
use Rattle.cell_keys.specs.declared.key.CellKey.{CellKey}
use Rattle.cell_keys.specs.declared.key.CellKey.TheVariants as key
use Rattle.cell_keys.specs.Cells.{cell_of, AreWhole}
use Rattle.cell_keys.proofs.Distinct.{cell_below, found_key}
use Rattle.step_code.specs.declared.machine.Op.TheVariants.{Guard}
use Rattle.step_code.specs.Machine.{bit, word_at, result_of}
use Rattle.step_code.specs.Code.{Cells}
use Rattle.part_layout.specs.Keyed.{keyed_cells}
use Rattle.side_theory.specs.Kept.{HasWord, IsSet, IsClockSet}
use Rattle.tree_step.specs.declared.cell.Cell.{Cell}
use Rattle.tree_step.specs.declared.frame.ClockNow.{ClockNow}
use Rattle.tree_step.specs.Cells.{cell_in}
use Rattle.tree_step.specs.Frames.{shown_elapsed, shown_length}
use Rattle.tree_step.specs.Starts.{Sight, IsClockShown}
use Rattle.part_words.specs.Words.{kept_word, value_word, ticking_in, clock_word, first_word, times_of, whole_word, unfit_word, key_word, AreFilled}
use Rattle.part_words.specs.SetWords.{IsKeptFor, AreKeysShown}
use Rattle.part_words.proofs.Wholes.{length_pos, whole_same}

some_of : (o : Option ℕ) → IsSome o → (n : ℕ) × (o ≡ Some n)
some_of None some = absurd (false≢true some)
some_of (Some n) some = (n, refl)

rank_bit : (b : Bool) → bit b ≡ rank (value.Bool b)
rank_bit false = refl
rank_bit true = refl

ok_no_err : (z : ℤ) (kind : Fail) → (let r : Result ℤ Fail = Ok z in r) ≡ Err kind → ⊥
ok_no_err z kind e = cc

same_Err : (a b : Fail) → (let r : Result ℤ Fail = Err a in r) ≡ Err b → b ≡ a
same_Err a b e = cc

fitted_kind : (z : ℤ) (kind : Fail) → fitted z ≡ Err kind → kind ≡ TooLarge
fitted_kind (pos n) kind e = by_size (nat_lt n (2 ^ 63)) e
  where
    by_size : (b : Bool) → (if b then Ok (pos n) else Err TooLarge) ≡ Err kind → kind ≡ TooLarge
    by_size true e = absurd (ok_no_err (pos n) kind e)
    by_size false e = same_Err TooLarge kind e
fitted_kind (negsuc n) kind e = by_size (nat_lt n (2 ^ 63)) e
  where
    by_size : (b : Bool) → (if b then Ok (negsuc n) else Err TooLarge) ≡ Err kind → kind ≡ TooLarge
    by_size true e = absurd (ok_no_err (negsuc n) kind e)
    by_size false e = same_Err TooLarge kind e

-- the two words of a number that may not fit tell it
guard_fitted : (r : Result ℤ Fail) → (z : ℤ) → r ≡ fitted z → result_of Guard (unfit_word r) (whole_word r) ≡ fitted z
guard_fitted r z is = guard_told r (is_fitted z r is) ∙ is
  where
    is_fitted : (z : ℤ) (r : Result ℤ Fail) → r ≡ fitted z → (kind : Fail) → r ≡ Err kind → kind ≡ TooLarge
    is_fitted z r is kind err = fitted_kind z kind (sym is ∙ err)

    guard_told : (r : Result ℤ Fail) → ((kind : Fail) → r ≡ Err kind → kind ≡ TooLarge) → result_of Guard (unfit_word r) (whole_word r) ≡ r
    guard_told (Ok w) kinds = refl
    guard_told (Err kind) kinds = ap Err (sym (kinds kind refl))

-- the interval that is shown has the length that is shown
told_is : (first : Bool) (interval : Elapsed) → IsLengthOf (shown_elapsed first interval) (shown_length first interval)
told_is true (Period period) = (length_pos (Period period), refl)
told_is false (Period period) = (length_pos (Period period), refl)
told_is true (Between t u) = (omega arith, let none : u.num * u.den - u.num * u.den ≡ 0 = omega arith in omega (arith, none))
told_is false (Between t u) = (length_pos (Between t u), refl)

module _ (s : Setting) (S : Assignment) (m : ℕ) (row : Row) (sight : Sight) (cells : List Cell) (keys : List CellKey) (words : List ℤ) (whole : AreWhole keys) (told : AreKeysShown s S m row sight cells keys) (filled : AreFilled sight cells keys words) (place : ℕ) where
  abbrev at : Cells
  at = keyed_cells keys s.model.names place

  abbrev t : ℕ
  t = length keys

  written : (k : CellKey) (c : ℕ) → cell_of keys k ≡ Some c → word_at words c ≡ key_word sight cells k
  written k c of_k = filled c k (found_key keys k c of_k)

  constant_word : (c : ℕ) (v : Value) → cell_of keys (key.Constant (rank v)) ≡ Some c → HasWord t words c v
  constant_word c v of_v = (cell_below keys (key.Constant (rank v)) c of_v, written (key.Constant (rank v)) c of_v)

  constant : (k c : ℕ) (v : Value) → (at k).const v ≡ Some c → HasWord t words c v
  constant zero c v is = constant_word c v is
  constant (suc zero) c v is = constant_word c v is
  constant (suc (suc k)) c v is = constant_word c v is

  -- the word of a last value
  kept_is : (x : ℕ) (v : Value) → (of : IsKeptFor s S m row sight cells x) → previous_value (name_ticks s S x) (S x) (start_of s x) m ≡ Some v → kept_word (cell_in sight.places cells x) ≡ rank v
  kept_is x v of is = ap kept_word of.found ∙ ap rank (same_Some of.cell.kept v (sym of.keeps ∙ is))

  set : IsSet s S m row at t words
  set = record {
    now = λ x c v of_x has. absurd (none-some v (sym (told.value x c of_x).fresh ∙ has));
    kept = λ x c v of_x rests is. (cell_below keys (key.Value x) c of_x, written (key.Value x) c of_x ∙ kept_is x v (told.value x c of_x) is);
    previous = λ x c v of_x is. (cell_below keys (key.Previous x) c of_x, written (key.Previous x) c of_x ∙ kept_is x v (told.previous x c of_x) is);
    left = λ x c k v of_l m_is is. (cell_below keys (key.Left x) c of_l, written (key.Left x) c of_l ∙ ap value_word (told.left x c k of_l m_is ∙ is));
    left_last = λ x c v of_l is. (cell_below keys (key.LeftLast x) c of_l, written (key.LeftLast x) c of_l ∙ ap value_word (told.left_last x c of_l ∙ is));
    const = constant;
  }

  module _ (class : ℕ) (clock : ClockNow) (found : slice_get sight.clocks place ≡ Some clock) (ticks : clock.ticks ≡ true) (is : IsClockShown s S m row (Some class) clock) where
    ticking : ticking_in (slice_get sight.clocks place) ≡ Some clock
    ticking = ap ticking_in found ∙ ap (λ b. if b then Some clock else None) ticks

    times_are : (n : ℕ) → times_of n clock ≡ fitted (whole_of (interval_at s (class_ticks s S (Some class)) m (clock_of s (Some class))) n)
    times_are n = ap fitted (sym (whole_same (shown_elapsed clock.first clock.interval) (shown_length clock.first clock.interval) n (told_is clock.first clock.interval)) ∙ ap (λ l. whole_of l n) (is.interval class refl ticks))

    whole_cell : (n c : ℕ) → cell_of keys (key.Interval place n) ≡ Some c → word_at words c ≡ whole_word (times_of n clock)
    whole_cell n c of_i = written (key.Interval place n) c of_i ∙ ap (clock_word (λ k. whole_word (times_of n k))) ticking

    unfit_cell : (n u : ℕ) → cell_of keys (key.Unfit place n) ≡ Some u → word_at words u ≡ unfit_word (times_of n clock)
    unfit_cell n u of_u = written (key.Unfit place n) u of_u ∙ ap (clock_word (λ k. unfit_word (times_of n k))) ticking

    clock_set : IsClockSet s S m class at t words
    clock_set = record {
      first = λ c of_f. (
        cell_below keys (key.First place) c of_f,
        written (key.First place) c of_f ∙ ap (clock_word first_word) ticking ∙ rank_bit clock.first ∙ ap (λ b. rank (value.Bool b)) (is.first class refl ticks),
      );
      interval = interval;
    }
      where
        interval : (n c : ℕ) → (at 0).interval n ≡ Some c → (c < t) × ((at 0).unfit n < t)
            × (result_of Guard (word_at words ((at 0).unfit n)) (word_at words c) ≡ fitted (whole_of (interval_at s (class_ticks s S (Some class)) m (clock_of s (Some class))) n))
        interval n c of_i =
            let (u, of_u) = some_of (cell_of keys (key.Unfit place n)) (whole.interval place n c of_i) in
            let unfit_is : (at 0).unfit n ≡ u = ap (λ o. unwrap_or o t) of_u in (
              cell_below keys (key.Interval place n) c of_i,
              subst (λ d. d < t) (sym unfit_is) (cell_below keys (key.Unfit place n) u of_u),
              ap (λ w. result_of Guard w (word_at words c)) (ap (word_at words) unfit_is ∙ unfit_cell n u of_u) ∙ ap (result_of Guard (unfit_word (times_of n clock))) (whole_cell n c of_i)
                  ∙ guard_fitted (times_of n clock) (whole_of (interval_at s (class_ticks s S (Some class)) m (clock_of s (Some class))) n) (times_are n),
            )

pub words_set : (s : Setting) (S : Assignment) (m : ℕ) (row : Row) (sight : Sight) (cells : List Cell) (keys : List CellKey) (words : List ℤ) → AreWhole keys → AreKeysShown s S m row sight cells keys → AreFilled sight cells keys words → (place : ℕ)
    → IsSet s S m row (keyed_cells keys s.model.names place) (length keys) words
    × ((class : ℕ) (clock : ClockNow) → slice_get sight.clocks place ≡ Some clock → clock.ticks ≡ true → IsClockShown s S m row (Some class) clock → IsClockSet s S m class (keyed_cells keys s.model.names place) (length keys) words)
words_set s S m row sight cells keys words whole told filled place =
    (set s S m row sight cells keys words whole told filled place, clock_set s S m row sight cells keys words whole told filled place)
