-- Why entries have no code, by what a step of the preparation tells.
use Rattle.std.proofs.Common.{◌≡◌, refl, ap, ap₂, ◌∙◌, sym, subst, ℕ, zero, suc, ◌+◌, ◌<◌, ◌≤◌, ◌&&◌, if◌then◌else◌, Bool, true, false, ◌⊎◌, inl, inr, List, [], ◌∷◌, ◌++◌, length, length-append, take, drop, map, get_or, Some, IfErr, Result, Ok, Err, slice_get, arith}
use Rattle.std.specs.Result.{IsErrAnd}
use Rattle.std.proofs.lemmas.Bool.{false≢true}
use Rattle.std.proofs.lemmas.Option.{none-some, same_Some, slice_get-get_or}
use Rattle.flat_model.specs.declared.equation.Equation.{Equation}
use Rattle.flat_model.specs.declared.expression.Expr.{Expr}
use Rattle.flat_model.specs.declared.model.FlatName.{FlatName}
use Rattle.flat_model.specs.Typing.{types_in}
use Rattle.cell_keys.specs.declared.key.CellKey.{CellKey}
use Rattle.cell_keys.specs.declared.sight.Sight.TheVariants.{Now}
use Rattle.cell_keys.specs.Cells.{cell_of, with_key, with_keys}
use Rattle.std.specs.Option.{is_some}
use Rattle.step_code.specs.declared.compile.NoCode.{NoCode}
use Rattle.step_code.specs.declared.compile.NoCode.TheVariants.{Memory, Unknown, Large}
use Rattle.step_code.specs.Code.{Cells, piece_of}
use Rattle.step_code.specs.Emits.{IsRefused}
use Rattle.step_code.specs.Known.{AreMarked}
use Rattle.step_code.specs.Lines as plain
use Rattle.step_code.proofs.Known.{typed_known}
use Rattle.step_lines.specs.declared.stretch.Line.{Line}
use Rattle.step_lines.specs.Stretches.{lines_of, are_known}
use Rattle.part_layout.specs.declared.lines.PartLine.{PartLine}
use Rattle.part_layout.specs.Keyed.{is_boolean, keyed_cells}
use Rattle.part_layout.specs.LayoutLaws.{HasAll}
use Rattle.part_layout.specs.Reads.{keys_read, keys_of_line, keys_of_lines}
use Rattle.part_layout.proofs.Covering.{covered}
use Rattle.tree_step.specs.declared.taking.Entry.{Entry}
use Rattle.tree_step.specs.Starts.{IsAmong}
use Rattle.part_code.specs.Uncoded.{HasNoSide, IsTypedSide, total, most_instructions, AreSidesOf, most_needed, HasNoCode, unsolved}
use Rattle.part_code.specs.private.Lines.{IsLineOf}
use Rattle.part_code.specs.private.Refused.{IsDueTo, HaveNoCode}
use Rattle.part_code.proofs.Sizes.{code_most}

-- ---- causes

pub due_more : {A B : Type 0} → (A → B) → (kind : NoCode) → IsDueTo A kind → IsDueTo B kind
due_more f Memory due = tt
due_more f Unknown due = f due
due_more f Large due = f due

pub due_within : {A B T : Type 0} → (A → B) → (r : Result T NoCode) → IfErr r (IsDueTo A) → IfErr r (IsDueTo B)
due_within f (Ok done) due = tt
due_within f (Err kind) due = due_more f kind due

-- a cause that is there is one for all that is handed on
pub due_all : {A T : Type 0} → A → (r : Result T NoCode) → IfErr r (IsDueTo A)
due_all cause (Ok done) = tt
due_all cause (Err Memory) = tt
due_all cause (Err Unknown) = cause
due_all cause (Err Large) = cause

-- what a `?` hands on
pub due_err : {A B T : Type 0} → (A → B) → (r : Result T NoCode) (kind : NoCode) → IsErrAnd r (λ k. k ≡ kind) → IsDueTo A kind → IfErr r (IsDueTo B)
due_err f (Ok done) kind same due = tt
due_err f (Err k) kind same due = subst (IsDueTo _) (sym same) (due_more f kind due)

-- why the code of lines is refused
pub refused_due : (at : Cells) (t : ℕ) (lines : List plain.Line) (kind : NoCode) → IsRefused (are_known at lines) (t + length (plain.lines_code at t lines)) kind → IsDueTo (HaveNoCode at t lines) kind
refused_due at t lines Memory is = tt
refused_due at t lines Unknown is = inl is
refused_due at t lines Large is = inr is

-- ---- a side that is missing

pub among_at : (entries : List Entry) (i : ℕ) (e : Entry) → slice_get entries i ≡ Some e → IsAmong e entries
among_at [] i e found = absurd (none-some e found)
among_at (first ∷ rest) zero e found = inl (same_Some first e found)
among_at (first ∷ rest) (suc i) e found = inr (among_at rest i e found)

pub no_side : (equations : List Equation) (names : List FlatName) (entries : List Entry) (i : ℕ) (d entry : Entry) → i < length entries → entry ≡ get_or entries i d → HasNoSide equations entry → HasNoCode equations names entries
no_side equations names entries i d entry lt is none = unsolved entry (among_at entries i entry (slice_get-get_or entries i d lt ∙ ap Some (sym is))) none

-- ---- a side that has a type is known

module _ (keys : List CellKey) (names : List FlatName) (class : ℕ) where
  marked : AreMarked (types_in names) (keyed_cells keys names class)
  marked zero x is = ap is_boolean is
  marked (suc zero) x is = ap is_boolean is
  marked (suc (suc k)) x is = ap is_boolean is

  pub side_known : (side : Expr) → HasAll keys (keys_read side class Now) → IsTypedSide names side → (piece_of (keyed_cells keys names class) side).known ≡ true
  side_known side has typed = typed_known (types_in names) (keyed_cells keys names class) marked side typed.type typed.typed (covered keys names class side typed.plain has)

and_false : (a b : Bool) → a && b ≡ false → (a ≡ false) ⊎ (b ≡ false)
and_false true b h = inr h
and_false false b h = inl h

-- where not all are known, one is not
pub unknown_at : (at : Cells) (lines : List plain.Line) → are_known at lines ≡ false → (j : ℕ) × (line : plain.Line) × (slice_get lines j ≡ Some line) × ((piece_of at line.side).known ≡ false)
unknown_at at [] none = absurd (false≢true (sym none))
unknown_at at (line ∷ lines) none = by_line (and_false (piece_of at line.side).known (are_known at lines) none) (unknown_at at lines)
  where
    by_line : ((piece_of at line.side).known ≡ false) ⊎ (are_known at lines ≡ false) → (are_known at lines ≡ false → (j : ℕ) × (l : plain.Line) × (slice_get lines j ≡ Some l) × ((piece_of at l.side).known ≡ false))
        → (j : ℕ) × (l : plain.Line) × (slice_get (line ∷ lines) j ≡ Some l) × ((piece_of at l.side).known ≡ false)
    by_line (inl own) rest = (0, line, refl, own)
    by_line (inr others) rest = let (j, l, found, is) = rest others in (suc j, l, found, is)

-- ---- sizes

with_key_most : (keys : List CellKey) (k : CellKey) → length (with_key keys k) ≤ length keys + 1
with_key_most keys k = by_case (is_some (cell_of keys k))
  where
    by_case : (b : Bool) → length (if b then keys else keys ++ k ∷ []) ≤ length keys + 1
    by_case true = omega arith
    by_case false = let size = length-append keys (k ∷ []) in omega (arith, size)

pub with_keys_most : (keys asked : List CellKey) → length (with_keys keys asked) ≤ length keys + length asked
with_keys_most keys [] = omega arith
with_keys_most keys (k ∷ asked) = let one = with_key_most keys k in let rest = with_keys_most (with_key keys k) asked in omega (arith, one, rest)

abbrev side_size : Line → ℕ
side_size line = most_instructions line.side.now

pub code_within : (at : Cells) (t : ℕ) (lines : List Line) → length (plain.lines_code at t (lines_of lines)) ≤ total (map side_size lines)
code_within at t [] = omega arith
code_within at t (line ∷ lines) =
    let size = length-append ((piece_of at line.side.now).code line.cell t) (plain.lines_code at t (lines_of lines)) in
    let one = code_most line.side.now at line.cell t in
    let rest = code_within at t lines in
    omega (arith, size, one, rest)

total_drop : {A : Type 0} (f : A → ℕ) (xs : List A) (n : ℕ) → total (map f (drop n xs)) ≤ total (map f xs)
total_drop f xs zero = omega arith
total_drop f [] (suc n) = omega arith
total_drop f (x ∷ xs) (suc n) = let rest = total_drop f xs n in omega (arith, rest)

total_take : {A : Type 0} (f : A → ℕ) (xs : List A) (n : ℕ) → total (map f (take n xs)) ≤ total (map f xs)
total_take f [] zero = omega arith
total_take f (x ∷ xs) zero = omega arith
total_take f [] (suc n) = omega arith
total_take f (x ∷ xs) (suc n) = let rest = total_take f xs n in omega (arith, rest)

pub run_within : (at : Cells) (t : ℕ) (lines : List Line) (m n : ℕ) → length (plain.lines_code at t (lines_of (take m (drop n lines)))) ≤ total (map side_size lines)
run_within at t lines m n =
    let code = code_within at t (take m (drop n lines)) in
    let taken = total_take side_size (drop n lines) m in
    let dropped = total_drop side_size lines n in
    omega (arith, code, taken, dropped)

abbrev side_in : PartLine → Expr
side_in line = line.side.now

-- coded lines have the sides of lines, and so their sizes
pub same_sizes : (lines : List PartLine) (coded : List Line) → length coded ≡ length lines → ((j : ℕ) (line : PartLine) (one : Line) → slice_get lines j ≡ Some line → slice_get coded j ≡ Some one → one.side.now ≡ line.side.now)
    → total (map side_size coded) ≡ total (map most_instructions (map side_in lines))
same_sizes [] [] size each = refl
same_sizes [] (one ∷ coded) size each = absurd (omega (arith, size))
same_sizes (line ∷ lines) [] size each = absurd (omega (arith, size))
same_sizes (line ∷ lines) (one ∷ coded) size each = ap₂ (λ m n. m + n) (ap most_instructions (each 0 line one refl refl)) (same_sizes lines coded (omega (arith, size)) (λ j. each (suc j)))

module _ (equations : List Equation) where
  abbrev AreOf : List Entry → List PartLine → Type 0
  AreOf entries lines = (j : ℕ) (entry : Entry) (line : PartLine) → slice_get entries j ≡ Some entry → slice_get lines j ≡ Some line → IsLineOf equations entry line

  pub sides_are : (entries : List Entry) (lines : List PartLine) → length lines ≡ length entries → AreOf entries lines → AreSidesOf equations entries (map side_in lines)
  sides_are [] [] size each = tt
  sides_are [] (line ∷ lines) size each = absurd (omega (arith, size))
  sides_are (entry ∷ entries) [] size each = absurd (omega (arith, size))
  sides_are (entry ∷ entries) (line ∷ lines) size each = ((each 0 entry line refl refl).side, sides_are entries lines (omega (arith, size)) (λ j. each (suc j)))

  -- what lines need is no more than their entries do
  pub all_needed : (entries : List Entry) (lines : List PartLine) → length lines ≡ length entries → AreOf entries lines → length (keys_of_lines lines) + total (map most_instructions (map side_in lines)) ≤ most_needed entries (map side_in lines)
  all_needed [] [] size each = omega arith
  all_needed [] (line ∷ lines) size each = absurd (omega (arith, size))
  all_needed (entry ∷ entries) [] size each = absurd (omega (arith, size))
  all_needed (entry ∷ entries) (line ∷ lines) size each =
      let rest = all_needed entries lines (omega (arith, size)) (λ j. each (suc j)) in
      let keys = length-append (keys_of_line line) (keys_of_lines lines) in
      let class : length (keys_read line.side.now line.class Now) ≡ length (keys_read line.side.now entry.clock Now) = ap (λ c. length (keys_read line.side.now c Now)) (each 0 entry line refl refl).class in
      omega (arith, rest, keys, class)
