-- Lists that grow at their end.
use Rattle.std.proofs.Common.{◌≡◌, refl, ap, ◌∙◌, sym, subst, ℕ, zero, suc, ◌+◌, ◌<◌, List, [], ◌∷◌, ◌++◌, length, get_or, Some, slice_get, ◌⊎◌, inl, inr, arith}
use Rattle.std.proofs.lemmas.Option.{none-some, same_Some, slice_get-get_or}
use Rattle.flat_model.specs.declared.equation.Equation.{Equation}
use Rattle.flat_model.specs.declared.model.FlatName.{FlatName}
use Rattle.flat_model.specs.Typing.{types_in}
use Rattle.cell_keys.specs.declared.key.CellKey.{CellKey}
use Rattle.cell_keys.specs.declared.key.CellKey.TheVariants.{Value}
use Rattle.cell_keys.specs.Cells.{cell_of}
use Rattle.step_lines.specs.declared.stretch.Line.{Line}
use Rattle.part_layout.specs.declared.lines.PartLine.{PartLine}
use Rattle.part_layout.specs.Keyed.{is_boolean}
use Rattle.tree_step.specs.declared.taking.Entry.{Entry}
use Rattle.part_code.specs.declared.coded.Landing.{Landing}
use Rattle.part_code.specs.declared.sides.NameSide.{NameSide}
use Rattle.part_code.specs.Coded.{IsSideOf}
use Rattle.part_code.specs.private.Lines.{expr_of, AreSidesTo, AreJoinedTo, ArePartLines, AreLandedTo, AreCodeLines}

append_cases : {A : Type 0} (xs : List A) (y : A) (j : ℕ) (x : A) → slice_get (xs ++ y ∷ []) j ≡ Some x → (slice_get xs j ≡ Some x) ⊎ ((j ≡ length xs) × (x ≡ y))
append_cases [] y zero x found = inr (refl, sym (same_Some y x found))
append_cases [] y (suc j) x found = absurd (none-some x found)
append_cases (z ∷ xs) y zero x found = inl found
append_cases (z ∷ xs) y (suc j) x found = elim (append_cases xs y j x found) [ inl here ↦ inl here | inr last ↦ inr (ap suc last.0, last.1) ]

append_long : {A : Type 0} (xs : List A) (x : A) → length (xs ++ x ∷ []) ≡ length xs + 1
append_long [] x = refl
append_long (y ∷ xs) x = let rest = append_long xs x in omega (arith, rest)

-- each element of a list has a fellow at its place in another
pub record AreFellows {A B : Type 0} (rel : A → B → Type 0) (xs : List A) (i : ℕ) (ys : List B) : Type 0 where
  pub size : length ys ≡ i
  pub each : (j : ℕ) (y : B) → slice_get ys j ≡ Some y → (x : A) × (slice_get xs j ≡ Some x) × rel x y

pub fellow_next : {A B : Type 0} (rel : A → B → Type 0) (xs : List A) (i : ℕ) (ys : List B) (x : A) (y : B) → AreFellows rel xs i ys → slice_get xs i ≡ Some x → rel x y → AreFellows rel xs (i + 1) (ys ++ y ∷ [])
fellow_next rel xs i ys x y are found is = record {
  size = let size = are.size in let long = append_long ys y in omega (arith, size, long);
  each = λ j z at. elim (append_cases ys y j z at) [
    | inl here ↦ are.each j z here
    | inr last ↦ (x, ap (slice_get xs) (last.0 ∙ are.size) ∙ found, subst (rel x) (sym last.1) is)
  ];
}

pub landings_next : (names : List FlatName) (keys : List CellKey) (lines : List PartLine) (i : ℕ) (landings new : List Landing) (d line : PartLine) (landing : Landing) → AreLandedTo names keys lines i landings → i < length lines → line ≡ get_or lines i d
    → cell_of keys (Value line.name) ≡ Some landing.cell → landing.boolean ≡ is_boolean (types_in names line.name) → new ≡ landings ++ landing ∷ [] → AreLandedTo names keys lines (i + 1) new
landings_next names keys lines i landings new d line landing are lt is cell boolean new_is =
    let next = fellow_next (λ (line : PartLine) (l : Landing). (cell_of keys (Value line.name) ≡ Some l.cell) × (l.boolean ≡ is_boolean (types_in names line.name))) lines i landings line landing
    (record { size = are.size; each = λ j l at. let (x, found, one, other) = are.each j l at in (x, found, (one, other)) }) (slice_get-get_or lines i d lt ∙ ap Some (sym is)) (cell, boolean) in
    subst (AreLandedTo names keys lines (i + 1)) (sym new_is) (record { size = next.size; each = λ j l at. let (x, found, both) = next.each j l at in (x, found, both.0, both.1) })

pub landings_first : (names : List FlatName) (keys : List CellKey) (lines : List PartLine) → AreLandedTo names keys lines 0 []
landings_first names keys lines = record { size = refl; each = λ j landing found. absurd (none-some landing found) }

pub code_lines_next : (keys : List CellKey) (lines : List PartLine) (i : ℕ) (coded new : List Line) (d line : PartLine) (one : Line) → AreCodeLines keys lines i coded → i < length lines → line ≡ get_or lines i d
    → cell_of keys (Value line.name) ≡ Some one.cell → one.name ≡ line.name → one.side.now ≡ line.side.now → new ≡ coded ++ one ∷ [] → AreCodeLines keys lines (i + 1) new
code_lines_next keys lines i coded new d line one are lt is cell name side new_is =
    let next = fellow_next (λ (line : PartLine) (l : Line). (cell_of keys (Value line.name) ≡ Some l.cell) × (l.name ≡ line.name) × (l.side.now ≡ line.side.now)) lines i coded line one
    (record { size = are.size; each = λ j l at. let (x, found, first, second, third) = are.each j l at in (x, found, (first, second, third)) }) (slice_get-get_or lines i d lt ∙ ap Some (sym is)) (cell, name, side) in
    subst (AreCodeLines keys lines (i + 1)) (sym new_is) (record { size = next.size; each = λ j l at. let (x, found, all) = next.each j l at in (x, found, all.0, all.1, all.2) })

pub code_lines_first : (keys : List CellKey) (lines : List PartLine) → AreCodeLines keys lines 0 []
code_lines_first keys lines = record { size = refl; each = λ j one found. absurd (none-some one found) }

pub sides_next : (equations : List Equation) (entries : List Entry) (i : ℕ) (sides new : List NameSide) (d : Entry) (side : NameSide) → AreSidesTo equations entries i sides → i < length entries → IsSideOf equations (get_or entries i d) (expr_of side) → new ≡ sides ++ side ∷ []
    → AreSidesTo equations entries (i + 1) new
sides_next equations entries i sides new d side are lt is new_is =
    let next = fellow_next (λ (entry : Entry) (s : NameSide). IsSideOf equations entry (expr_of s)) entries i sides (get_or entries i d) side (record { size = are.size; each = are.each }) (slice_get-get_or entries i d lt) is in
    subst (AreSidesTo equations entries (i + 1)) (sym new_is) (record { size = next.size; each = next.each })

pub sides_first : (equations : List Equation) (entries : List Entry) → AreSidesTo equations entries 0 []
sides_first equations entries = record { size = refl; each = λ j side found. absurd (none-some side found) }

pub joined_next : (entries : List Entry) (sides : List NameSide) (i : ℕ) (lines new : List PartLine) (d : Entry) (e : NameSide) (line : PartLine) → AreJoinedTo entries sides i lines → i < length entries → i < length sides
    → line.name ≡ (get_or entries i d).name → line.class ≡ (get_or entries i d).clock → line.side.now ≡ expr_of (get_or sides i e) → new ≡ lines ++ line ∷ [] → AreJoinedTo entries sides (i + 1) new
joined_next entries sides i lines new d e line are lt side_lt name class side new_is =
    let by_entry = fellow_next (λ (entry : Entry) (l : PartLine). (l.name ≡ entry.name) × (l.class ≡ entry.clock)) entries i lines (get_or entries i d) line
    (record { size = are.size; each = λ j l at. let (entry, found, one, other) = are.entry j l at in (entry, found, (one, other)) }) (slice_get-get_or entries i d lt) (name, class) in
    let by_side = fellow_next (λ (s : NameSide) (l : PartLine). l.side.now ≡ expr_of s) sides i lines (get_or sides i e) line (record { size = are.size; each = are.side }) (slice_get-get_or sides i e side_lt) side in
    subst (AreJoinedTo entries sides (i + 1)) (sym new_is) (record {
      size = by_entry.size;
      entry = λ j l at. let (entry, found, both) = by_entry.each j l at in (entry, found, both.0, both.1);
      side = by_side.each;
    })

pub joined_first : (entries : List Entry) (sides : List NameSide) → AreJoinedTo entries sides 0 []
joined_first entries sides = record { size = refl; entry = λ j line found. absurd (none-some line found); side = λ j line found. absurd (none-some line found) }

-- lines of sides that are those of entries are the entries' lines
pub joined_lines : (equations : List Equation) (entries : List Entry) (sides : List NameSide) (n : ℕ) (lines : List PartLine) → AreSidesTo equations entries n sides → AreJoinedTo entries sides n lines → ArePartLines equations entries n lines
joined_lines equations entries sides n lines are joined = record {
  size = joined.size;
  each = λ j line found.
      let (entry, entry_found, name, class) = joined.entry j line found in
      let (side, side_found, is) = joined.side j line found in
      let (other, other_found, of) = are.each j side side_found in
      let here : IsSideOf equations entry (expr_of side) = subst (λ e. IsSideOf equations e (expr_of side)) (same_Some other entry (sym other_found ∙ entry_found)) of in
      (entry, entry_found, record { side = subst (IsSideOf equations entry) (sym is) here; name = name; class = class });
}
