-- The rows that were read, in the lists that hold them.
use Rattle.std.proofs.Common.{◌≡◌, ◌∙◌, ap, sym, refl, ℕ, zero, suc, ◌+◌, ◌-◌, ◌<◌, ◌≤◌, inl, inr, true, false, cond, List, [], ◌∷◌, ◌++◌, length, Option, Some, None, slice_get, ltb, All, arith}
use Rattle.std.proofs.lemmas.Bool.Decides.{leb_tells, nat_tests}
use Rattle.std.proofs.lemmas.List.{length-append, append_assoc, append-nil}
use Rattle.rational_time.specs.declared.ratio.Ratio.{Ratio}
use Rattle.sync_values.specs.declared.value.Value.{Value}
use Rattle.flat_model.specs.Tables.{IsTime}
use Rattle.input_table.specs.Rows.{Row, last_row, times_of, cells_of, cell_of_row, time_of_row}
use Rattle.input_table.specs.private.Reading.{Hold, above_next, above_in, last_time}

abbrev Wide : ℕ → List Row → Type 0
Wide width rows = All (λ (row : Row). length row.cells ≡ width) rows

wide_rest : (width : ℕ) (row : Row) (rows : List Row) → Wide width (row ∷ rows) → Wide width rows
wide_rest width row rows wide k d less = wide (suc k) d (omega arith)

-- the last of some rows, and the cells before its own
last_cells : (width : ℕ) (row : Row) (rows : List Row) → Wide width (row ∷ rows)
    → (front : List Value) × (last : Row) × (last_row (Some row) rows ≡ Some last) × (cells_of (row ∷ rows) ≡ front ++ last.cells) × (length last.cells ≡ width)
last_cells width row [] wide = ([], row, refl, append-nil row.cells, wide 0 row (omega arith))
last_cells width row (next ∷ rows) wide =
    let more = last_cells width next rows (wide_rest width row (next ∷ rows) wide) in
    (row.cells ++ more.0, more.1, more.2, ap (λ (vs : List Value). row.cells ++ vs) more.3 ∙ sym (append_assoc row.cells more.0 more.1.cells), more.4)

-- an element behind some others
pub get_behind : {A : Type 0} (front back : List A) (k : ℕ) → slice_get (front ++ back) (length front + k) ≡ slice_get back k
get_behind [] back k = let e : 0 + k ≡ k = omega arith in ap (λ n. slice_get back n) e
get_behind (x ∷ front) back k = let e : length (x ∷ front) + k ≡ suc (length front + k) = omega arith in ap (λ n. slice_get (x ∷ (front ++ back)) n) e ∙ get_behind front back k

pub get_before : {A : Type 0} (front back : List A) (k : ℕ) → k < length front → slice_get (front ++ back) k ≡ slice_get front k
get_before [] back k less = absurd (omega arith)
get_before (x ∷ front) back zero less = refl
get_before (x ∷ front) back (suc k) less = get_before front back k (omega arith)

if_not : {A : Type 0} (m n : ℕ) (a b : A) → n ≤ m → cond (ltb m n) a b ≡ b
if_not m n a b le = let off : ltb m n ≡ false = grind (arith, nat_tests) in ap (λ t. cond t a b) off

if_so : {A : Type 0} (m n : ℕ) (a b : A) → m < n → cond (ltb m n) a b ≡ a
if_so m n a b less = let on : ltb m n ≡ true = grind (arith, nat_tests) in ap (λ t. cond t a b) on

-- what stands above the next cell, when some of its row were taken
pub above_is : (width : ℕ) (old taken : List Value) (k : ℕ) → length taken ≡ k → k < width → above_next width (old ++ taken) ≡ above_in width old k
above_is width old taken k long less = elim (leb_tells width (length old + k)) [
  | inl past ↦
      let len : length (old ++ taken) ≡ length old + k = omega (arith, length-append old taken, long) in
      let at : length (old ++ taken) - width ≡ length old + k - width = ap (λ n. n - width) len in
      if_not (length (old ++ taken)) width None (slice_get (old ++ taken) (length (old ++ taken) - width)) (omega (arith, len, past.1))
      ∙ ap (λ n. slice_get (old ++ taken) n) at
      ∙ get_before old taken (length old + k - width) (omega (arith, past.1))
      ∙ sym (if_not (length old + k) width None (slice_get old (length old + k - width)) past.1)
  | inr short ↦
      let len : length (old ++ taken) ≡ length old + k = omega (arith, length-append old taken, long) in
      if_so (length (old ++ taken)) width None (slice_get (old ++ taken) (length (old ++ taken) - width)) (omega (arith, len, short.1))
      ∙ sym (if_so (length old + k) width None (slice_get old (length old + k - width)) (omega (arith, short.1)))
]

-- what stands above a cell is that of the row before
pub above_row : (width : ℕ) (rows : List Row) (k : ℕ) → Wide width rows → k < width → above_in width (cells_of rows) k ≡ cell_of_row (last_row None rows) k
above_row width [] k wide less = if_so (0 + k) width None (slice_get [] (0 + k - width)) (omega arith)
above_row width (row ∷ rows) k wide less =
    let last = last_cells width row rows wide in
    let len : length (cells_of (row ∷ rows)) ≡ length last.0 + width = ap length last.3 ∙ omega (arith, length-append last.0 last.1.cells, last.4) in
    let at : length (cells_of (row ∷ rows)) + k - width ≡ length last.0 + k = omega (arith, len) in
    if_not (length (cells_of (row ∷ rows)) + k) width None (slice_get (cells_of (row ∷ rows)) (length (cells_of (row ∷ rows)) + k - width)) (omega (arith, len))
    ∙ ap (λ n. slice_get (cells_of (row ∷ rows)) n) at
    ∙ ap (λ vs. slice_get vs (length last.0 + k)) last.3
    ∙ get_behind last.0 last.1.cells k
    ∙ ap (λ (r : Option Row). cell_of_row r k) (sym last.2)

-- the last time is that of the last row
pub last_time_is : (rows : List Row) → last_time (times_of rows) ≡ time_of_row (last_row None rows)
last_time_is [] = refl
last_time_is (row ∷ rows) = behind row rows
  where
    behind : (row : Row) (rows : List Row) → last_time (times_of (row ∷ rows)) ≡ time_of_row (last_row (Some row) rows)
    behind row [] = refl
    behind row (next ∷ rows) =
        let e : length (times_of (row ∷ (next ∷ rows))) - 1 ≡ suc (length (times_of (next ∷ rows)) - 1) = omega arith in
        ap (λ n. slice_get (row.time ∷ times_of (next ∷ rows)) n) e ∙ behind next rows

times_push : (rows : List Row) (row : Row) → times_of (rows ++ row ∷ []) ≡ times_of rows ++ row.time ∷ []
times_push [] row = refl
times_push (r ∷ rows) row = ap (λ (ts : List Ratio). r.time ∷ ts) (times_push rows row)

cells_push : (rows : List Row) (row : Row) → cells_of (rows ++ row ∷ []) ≡ cells_of rows ++ row.cells
cells_push [] row = append-nil row.cells
cells_push (r ∷ rows) row = ap (λ (vs : List Value). r.cells ++ vs) (cells_push rows row) ∙ sym (append_assoc r.cells (cells_of rows) row.cells)

all_push : {A : Type 0} (P : A → Type 0) (xs : List A) (x : A) → All P xs → P x → All P (xs ++ x ∷ [])
all_push P [] x all here zero d less = here
all_push P [] x all here (suc k) d less = absurd (omega arith)
all_push P (y ∷ xs) x all here zero d less = all 0 d (omega arith)
all_push P (y ∷ xs) x all here (suc k) d less = all_push P xs x (λ i e small. all (suc i) e (omega arith)) here k d (omega arith)

-- the lists hold one row more
pub hold_more : (width : ℕ) (rows : List Row) (times : List Ratio) (cells taken : List Value) (t : Ratio) → Hold width rows times cells → length taken ≡ width → IsTime t
    → Hold width (rows ++ (record { time = t; cells = taken }) ∷ []) (times ++ t ∷ []) (cells ++ taken)
hold_more width rows times cells taken t hold wide within = record {
  times_are = ap (λ (ts : List Ratio). ts ++ t ∷ []) hold.times_are ∙ sym (times_push rows row);
  cells_are = ap (λ (vs : List Value). vs ++ taken) hold.cells_are ∙ sym (cells_push rows row);
  wide = all_push (λ (r : Row). length r.cells ≡ width) rows row hold.wide wide;
  range = all_push IsTime times t hold.range within;
}
  where
    row : Row
    row = record { time = t; cells = taken }
